mod Opening
mod Texts
mod Operators
