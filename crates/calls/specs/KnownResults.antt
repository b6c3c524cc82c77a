-- Document 01, "Scans with known results": the M entries, as one group, about the model's replies, with the 2 that
-- request 5/14 makes 3. Knots at 0 and 1 unless said; lists are left, right.
use Rattle.std.specs.Prelude.{List, [], ◌∷◌, ◌≡◌, ℕ, ℤ, pos, negsuc}
use Rattle.scans.specs.Scan.{Scan, scan_of}
use Rattle.calls.specs.Calls.{number, refused, value, trend, total, reply_to}

-- two scans, at positions a and b
abbrev pub scans_at : ℕ → ℕ → List ℤ → List ℤ → List Scan
scans_at a b left right = scan_of a left ∷ scan_of b right ∷ []

abbrev pub two : List ℤ → List ℤ → List Scan
two = scans_at 0 1

pub record KnownResults : Type 0 where
  -- (0,0), (1,0): value at 128/256 is 32,768; trend there 98,304
  pub value-half : reply_to (value 128) (two (pos 0 ∷ pos 0 ∷ []) (pos 1 ∷ pos 0 ∷ [])) ≡ number (pos 32768)
  pub trend-half : reply_to (trend 128) (two (pos 0 ∷ pos 0 ∷ []) (pos 1 ∷ pos 0 ∷ [])) ≡ number (pos 98304)
  -- same at 1/256: value 3 (5/14); with right list (−1,0): −3
  pub value-start : reply_to (value 1) (two (pos 0 ∷ pos 0 ∷ []) (pos 1 ∷ pos 0 ∷ [])) ≡ number (pos 3)
  pub value-below : reply_to (value 1) (two (pos 0 ∷ pos 0 ∷ []) (negsuc 0 ∷ pos 0 ∷ [])) ≡ number (negsuc 2)
  -- (0,0) at 10, (4,0) at 12: trend at 11 is 196,608
  pub trend-long : reply_to (trend 2816) (scans_at 10 12 (pos 0 ∷ pos 0 ∷ []) (pos 4 ∷ pos 0 ∷ [])) ≡ number (pos 196608)
  -- (1), (0): total 360,360
  pub total_constant : reply_to (total 0 1) (two (pos 1 ∷ []) (pos 0 ∷ [])) ≡ number (pos 360360)
  -- (0,1), (0,0): 60,060; (0,0), (0,1): −60,060
  pub total-left-slope : reply_to (total 0 1) (two (pos 0 ∷ pos 1 ∷ []) (pos 0 ∷ pos 0 ∷ [])) ≡ number (pos 60060)
  pub total-right-slope : reply_to (total 0 1) (two (pos 0 ∷ pos 0 ∷ []) (pos 0 ∷ pos 1 ∷ [])) ≡ number (negsuc 60059)
  -- (1,0), (0): 480,480
  pub total_unequal : reply_to (total 0 1) (two (pos 1 ∷ pos 0 ∷ []) (pos 0 ∷ [])) ≡ number (pos 480480)
  -- (0,0,1), (0,0,0): 12,012
  pub total_curved :
      reply_to (total 0 1) (two (pos 0 ∷ pos 0 ∷ pos 1 ∷ []) (pos 0 ∷ pos 0 ∷ pos 0 ∷ [])) ≡ number (pos 12012)
  -- grade 7 both ends, only left C_7 = 1: 7
  pub total_seventh :
      reply_to (total 0 1) (two
      (pos 0 ∷ pos 0 ∷ pos 0 ∷ pos 0 ∷ pos 0 ∷ pos 0 ∷ pos 0 ∷ pos 1 ∷ [])
      (pos 0 ∷ pos 0 ∷ pos 0 ∷ pos 0 ∷ pos 0 ∷ pos 0 ∷ pos 0 ∷ pos 0 ∷ [])) ≡ number (pos 7)
  -- (1) at 10, (0) at 12: value at 2,560/256 is 65,536; at 2,559/256: 7
  pub value_at_knot : reply_to (value 2560) (scans_at 10 12 (pos 1 ∷ []) (pos 0 ∷ [])) ≡ number (pos 65536)
  pub value-before-first : reply_to (value 2559) (scans_at 10 12 (pos 1 ∷ []) (pos 0 ∷ [])) ≡ refused 7
