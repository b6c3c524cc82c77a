-- What the proofs of `fraction` use.
mod Halves
