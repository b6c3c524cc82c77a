mod Strided
mod Spans
