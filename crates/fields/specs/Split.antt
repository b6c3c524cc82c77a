-- A line is its fields, parted by one space each.
use Rattle.std.specs.Prelude.{ℕ, Option, Some, None, List, [], ◌==◌}
use Rattle.std.specs.List.{slice_split}
use Rattle.std.specs.Borrow.{Bor}
use Rattle.fields.specs.declared.field.Fields.{Fields}

abbrev pub split : List ℕ → List (List ℕ)
split line = slice_split (λ byte. byte == 32) line

abbrev pub split_rest : Option (Bor (List ℕ)) → List (List ℕ)
split_rest (Some rest) = split rest.now
split_rest None = []

-- the fields that are still to be read
abbrev pub left : Fields → List (List ℕ)
left f = split_rest f.rest
