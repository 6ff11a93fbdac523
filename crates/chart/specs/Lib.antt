-- What shows at each paragraph.
pub mod Chart
pub mod Laws
