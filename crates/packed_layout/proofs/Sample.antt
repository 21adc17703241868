use Rattle.std.proofs.Common.{refl}
use Rattle.packed_layout.specs.Sample.{Worked}

pub worked : Worked
worked = record { bytes = refl; twice = refl; cut_payload = refl; cut_header = refl; cut_before_kind = refl; kind = refl; sort = refl; not_bare = refl; flags = refl; no_name = refl; import_kind = refl; fewer_records = refl }
