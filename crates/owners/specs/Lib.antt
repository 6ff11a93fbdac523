-- Who owns which paragraph, and which page of which chapter; then the laws.
pub mod Owners
pub mod Laws
