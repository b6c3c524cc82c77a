mod Promises
mod Found
