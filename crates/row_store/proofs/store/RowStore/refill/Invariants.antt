use Rattle.std.proofs.Common.{◌≡◌}
use Rattle.row_store.specs.Stores.{rows_now, rows_before, written}
use Rattle.row_store.proofs.Merging.{Refilled}
use Rattle.row_store.proofs.store.RowStore.refill.Given as goal

abbrev pub invariant-loop-row : goal.invariant-loop-row
invariant-loop-row g l =
    record {
      so_far : Refilled (rows_now l.fn.self) (g.C.Changes.given l.changes) (written l.fn.self) (rows_before l.self) (written l.self) l.row;
      same : rows_now l.self ≡ rows_now l.fn.self;
      room : l.self.room ≡ l.fn.self.room;
    }
