-- A CFG as it is written, and that reading it gives its entries back.
pub mod Cfg
pub mod Code
pub mod Laws
