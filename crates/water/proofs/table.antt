-- What the proof of `integral_weights` uses.
mod Recurrence
