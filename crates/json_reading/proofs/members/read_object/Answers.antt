-- What is answered of the members up to the closing brace, where an object begins and nothing follows it.
use Rattle.json_reading.proofs.Wholes.{object_unopened, object_unadmitted, object_ended, object_followed}
use Rattle.json_reading.proofs.members.read_object.Goals as goal

pub returns-in_err-begun : goal.returns-in_err-begun
returns-in_err-begun c = rw c.from_residual.ensures (object_unopened _ c.in_err-begun.ensures)

pub returns-in_err-draft : goal.returns-in_err-draft
returns-in_err-draft c =
    rw c.from_residual-in_err-draft.ensures (object_unadmitted _ _ c.in_ok-begun.ensures.0 c.in_err-draft.ensures)

pub returns-in-End : goal.returns-in-End
returns-in-End c = object_ended _ _ c.in_ok-begun.ensures.0 _ c.in_ok-draft.ensures c.in-End.ensures

pub returns-in-Mark : goal.returns-in-Mark
returns-in-Mark c = object_followed _ _ c.in_ok-begun.ensures.0 _ c.in_ok-draft.ensures _ _ c.in-Mark.ensures.0

pub returns-in-Text : goal.returns-in-Text
returns-in-Text c = object_followed _ _ c.in_ok-begun.ensures.0 _ c.in_ok-draft.ensures _ _ c.in-Text.ensures.0

pub returns-in-Bad : goal.returns-in-Bad
returns-in-Bad c = object_followed _ _ c.in_ok-begun.ensures.0 _ c.in_ok-draft.ensures _ _ c.in-Bad.ensures
