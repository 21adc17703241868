use Rattle.project.proofs.Standing.{tables-stand}
use Rattle.project.proofs.laws.law_of_tables.Goals as goal

pub returns : goal.returns
returns c = tables-stand
