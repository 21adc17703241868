use Rattle.row_store.proofs.Adding.{row_added}
use Rattle.row_store.proofs.Side.add.Goals as goal

pub returns : goal.returns
returns g c =
    let run = c.append-records.ensures.runs in
    record { runs = (run.0, run.1, run.2, row_added c.args.self.now c.args.names c.args.facts run.0.items c.push.new.self c.append-records.new.self c.append-records.result run.3.0 run.3.1 c.push.ensures) }
