-- Request 7/14: the call Same, which document 01 has under "Refusal table".
use Rattle.std.specs.Prelude.{Bool, true, false, ◌&&◌, List, [], ◌∷◌, ◌≡◌, ℕ, eqb, ℤ, pos, get_or}
use Rattle.integer.specs.Tests.{equal, pairwise}
use Rattle.scans.specs.Scan.{Scan, scan_of, left_list}
use Rattle.scans.specs.Standing.{Standing}
use Rattle.scans.specs.Combination.{aligned}
use Rattle.block.specs.Block.{block}

-- C_0, the moisture at the scan
abbrev pub moisture : Scan → ℤ
moisture s = get_or (left_list s) 0 (pos 0)

-- "positions, grades and all coefficients agree", of two scans: the position and the grade as for a sum of reels
abbrev pub agree : Scan → Scan → Bool
agree s t = aligned s t && pairwise equal s.coefficients t.coefficients

-- "yes exactly when knot counts, positions, grades and all coefficients agree"
unfoldable pub same : List Scan → List Scan → Bool
same = pairwise agree

-- "the old" meaning, document 01's, for the laws on it alone: the knot counts, positions and every C_0 agree
abbrev pub same_moistures : List Scan → List Scan → Bool
same_moistures = pairwise (λ s t. eqb s.position t.position && equal (moisture s) (moisture t))

-- what the request says of a yes, of two lists of scans
pub record SameLaws (A B : List Scan) : Type 0 where
  -- yes exactly when the two are one list
  pub yes_equal : same A B ≡ true → A ≡ B
  pub equal_yes : A ≡ B → same A B ≡ true
  -- "which is when the written bytes agree"
  pub yes_bytes : same A B ≡ true → block A ≡ block B
  pub bytes_yes : Standing A → Standing B → block A ≡ block B → same A B ≡ true
  -- "A yes under the new meaning is a yes under the old"
  pub yes_old : same A B ≡ true → same_moistures A B ≡ true

-- one scan at x, with C_0 = c and the slope d
abbrev pub sloping : ℕ → ℤ → ℤ → List Scan
sloping x c d = scan_of x (c ∷ d ∷ []) ∷ []

-- "Two reels that agreed at each scan but not in slope were filed as one": with the slopes d and e the old meaning says
-- yes; now they are told apart. By C_0 the old meaning told two reels apart too
pub record ToldApart (x : ℕ) (b c d e : ℤ) : Type 0 where
  pub old_yes : same_moistures (sloping x c d) (sloping x c e) ≡ true
  pub new_no : (d ≡ e → ⊥) → same (sloping x c d) (sloping x c e) ≡ false
  pub old_no : (b ≡ c → ⊥) → same_moistures (sloping x b d) (sloping x c d) ≡ false
