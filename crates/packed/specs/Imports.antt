-- The bytes of import records.
use Rattle.std.specs.Prelude.{◌≡◌, ℕ, true, List, is_some}
use Rattle.packed_layout.specs.Codec.{times, read_whole}
use Rattle.packed_layout.specs.Layout.{import_record}

-- the bytes are just so many import records
abbrev pub Whole : ℕ → List ℕ → Type 0
Whole n s = is_some (read_whole (times import_record n) s) ≡ true
