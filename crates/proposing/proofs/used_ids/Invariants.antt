-- `proposing::used_ids` meets its contract. The loop's invariant: the ids passed are told (Using). Assumes nothing.
use Rattle.proposing.proofs.Using.{Using}
use Rattle.proposing.proofs.used_ids.Given as goal

abbrev pub invariant-loop-id : goal.invariant-loop-id
invariant-loop-id l = Using l.ids l.n l.used l.id-index
