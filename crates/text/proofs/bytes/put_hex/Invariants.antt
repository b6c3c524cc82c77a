-- After each turn, the digits of the rest stored behind them make the whole.
use Rattle.std.proofs.Common.{length, drop, ◌≡◌, ◌+◌, ◌*◌, ◌≤◌}
use Rattle.std.proofs.lemmas.List.Edits.{sets}
use Rattle.text.specs.Text.{hex_text}
use Rattle.text.proofs.bytes.put_hex.Given as goal

abbrev pub invariant-loop-b : goal.invariant-loop-b
invariant-loop-b l = record {
  place : l.to ≡ l.at + 2 * l.b-index;
  same_room : length l.out ≡ length l.fn.out;
  rest : sets l.out l.to (hex_text (drop l.b-index l.bytes)) ≡ sets l.fn.out l.at (hex_text l.bytes);
}
