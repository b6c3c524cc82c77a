pub mod Lists
mod SignedPowers
