-- What the proofs of `weighted` and `total` use.
mod Terms
mod ByTable
