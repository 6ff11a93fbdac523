-- What requests of document 02 promise, a record each, its fields in the words of 02, with its value in Laws/Requests. W-207 is Smallest.
pub mod W201
pub mod W202
pub mod W203
pub mod W206
pub mod W209
pub mod W211
pub mod W212
pub mod W214
