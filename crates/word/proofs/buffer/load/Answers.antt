-- The word at k is that of the four bytes at k.
use Rattle.std.proofs.Common.{◌≡◌, ℕ, zero, suc, ◌/◌, ◌^◌, ◌≤◌, ◌<◌, List, [], ◌∷◌, map, length, arith, refl, sym, ◌∙◌, ap, ap₂, w32}
use Rattle.std.proofs.Math.ListN.{get_or-eq_default}
use Rattle.std.proofs.lemmas.List.{get_or-map}
use Rattle.std.specs.Int.{from_le_bytes}
use Rattle.std.specs.Simd.{first_chunks}
use Rattle.block.specs.Bytes.{joined, words}
use Rattle.block.proofs.Bytes.{below_all, length-words}
use Rattle.word.proofs.buffer.load.Goals as goal

-- the words are those of the bytes four by four
by_four : (bs : List ℕ) (n : ℕ) → n ≡ length bs / 4 → words bs ≡ map (from_le_bytes w32) (first_chunks 4 n bs)
by_four [] zero e = refl
by_four (a ∷ []) zero e = refl
by_four (a ∷ b ∷ []) zero e = refl
by_four (a ∷ b ∷ c ∷ []) zero e = refl
by_four [] (suc n) e = absurd (omega arith)
by_four (a ∷ []) (suc n) e = absurd (omega arith)
by_four (a ∷ b ∷ []) (suc n) e = absurd (omega arith)
by_four (a ∷ b ∷ c ∷ []) (suc n) e = absurd (omega arith)
by_four (a ∷ b ∷ c ∷ d ∷ bs) zero e = absurd (omega arith)
by_four (a ∷ b ∷ c ∷ d ∷ bs) (suc n) e =
    let here : joined a b c d ≡ from_le_bytes w32 (a ∷ b ∷ c ∷ d ∷ []) = omega arith in
    ap₂ (λ x xs. x ∷ xs) here (by_four bs n (omega arith))

pub returns-in_default-clause-value : goal.returns-in_default-clause-value
returns-in_default-clause-value c =
    let bs = c.args.bytes.now in
    let past : length c.as_chunks.result.0.now ≤ c.args.k = c.in_default.ensures.lookup.3 in
    sym (get_or-eq_default (words bs) 0 (omega (arith, length-words bs, c.as_chunks.ensures.front_len)))

pub returns-in_default-clause-below : goal.returns-in_default-clause-below
returns-in_default-clause-below c h = below_all (2 ^ 8) c.args.bytes.now (λ i. (c.type_inv.bytes i).fits)

pub returns-clause-value : goal.returns-clause-value
returns-clause-value c =
    let bs = c.args.bytes.now in
    let quads = c.as_chunks.result.0.now in
    let quad = c.in-Some.word.now in
    let within : c.args.k < length quads = c.in-Some.ensures.lookup.3.0 in
    let all : words bs ≡ map (from_le_bytes w32) quads =
    by_four bs (length bs / 4) refl ∙ ap (map (from_le_bytes w32)) (sym c.as_chunks.ensures.front) in
    c.from_le_bytes.ensures ∙ ap (from_le_bytes w32) c.in-Some.ensures.lookup.1 ∙
    rw all (sym (get_or-map (from_le_bytes w32) quads c.args.k quad 0 within))

pub returns-clause-below : goal.returns-clause-below
returns-clause-below c h = below_all (2 ^ 8) c.args.bytes.now (λ i. (c.type_inv.bytes i).fits)
