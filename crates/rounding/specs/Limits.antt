-- Document 01, "The reel": its limits; and those of requests 1/14 and 4/14.
use Rattle.std.specs.Prelude.{ℕ}

-- a reel has 0 to 129 knots
abbrev pub knots_max : ℕ
knots_max = 129

-- a position is 0 to 65,535 steps
abbrev pub position_max : ℕ
position_max = 65535

-- a grade is 0 to 7
abbrev pub grade_max : ℕ
grade_max = 7

-- a gap is 1 to 16 steps
abbrev pub gap_max : ℕ
gap_max = 16

-- the size rule's limit, 2^28
abbrev pub size_max : ℕ
size_max = 268435456

-- request 1/14: a knot has up to 32 readings, in a block
abbrev pub readings_max : ℕ
readings_max = 32

-- request 4/14: a multiplier is −16 to 16
abbrev pub multiplier_max : ℕ
multiplier_max = 16
