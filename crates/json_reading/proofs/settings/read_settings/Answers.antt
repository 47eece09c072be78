-- The mark that opens an object, and the flags behind it.
use Rattle.std.proofs.Common.{arith}
use Rattle.json_reading.proofs.FlagSettings.{settings_some, settings_none, settings_from_lem}
use Rattle.json_reading.proofs.settings.read_settings.Goals as goal

pub returns : goal.returns
returns c =
    let a = c.args in
    let brace = c.in_ok-begun.ensures in
    settings_from_lem a.s.now a.at c.in_ok-begun.begun c.read_flags.result _ _ (omega (arith, brace.1)) (settings_some _ _ brace.0) c.read_flags.ensures

pub returns-in_err-begun : goal.returns-in_err-begun
returns-in_err-begun c = rw c.from_residual.ensures (settings_none _ c.in_err-begun.ensures)
