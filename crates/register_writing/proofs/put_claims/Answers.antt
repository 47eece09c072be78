-- The count line is put, then at each turn of the loop the next of the claims.
use Rattle.std.proofs.Common.{◌≡◌, ◌≤◌, ◌+◌, sym, ap, ◌∙◌, arith, length, get_or}
use Rattle.lists.specs.Lists.{splice}
use Rattle.register.specs.Limits.{claim_limit}
use Rattle.register.specs.Register.{no_claim}
use Rattle.columns.specs.Sheet.{claims_in}
use Rattle.columns.specs.SheetLaws.{claims_in_length, claims_in_at}
use Rattle.text_rules.specs.Keys.{claims_key}
use Rattle.text_rules.specs.Registers.{claim_text}
use Rattle.buffers.specs.Laws.{writing_start, writing_left, writing_last}
use Rattle.register_writing.specs.Sections.{section_start, going_room, going_next, going_done}
use Rattle.register_writing.proofs.put_claims.Goals as goal

pub loop-i-init : goal.loop-i-init
loop-i-init c = writing_start _ _ _

pub put_claim-end-requires : goal.put_claim-end-requires
put_claim-end-requires c =
    let a = c.args in
    let text = claim_text a.version in
    let list = claims_in a.sheet.now in
    let inside : a.n ≤ length list = omega (arith, claims_in_length a.sheet.now, c.requires.1) in
    let counted = section_start text list a.n claims_key claim_limit a.at inside c.requires.0 c.put_line-end.ensures.behind c.put_line-end.ensures.written in
    let same : get_or list c.loop-i.i no_claim ≡ c.claim_at.result = claims_in_at a.sheet.now c.loop-i.i ∙ sym c.claim_at.ensures in
    rw same at (going_room text list a.n no_claim inside (writing_left c.requires.0 counted) c.loop-i-test.true c.loop-i.invariant)

pub loop-i-preserved : goal.loop-i-preserved
loop-i-preserved c =
    let a = c.args in
    let text = claim_text a.version in
    let list = claims_in a.sheet.now in
    let inside : a.n ≤ length list = omega (arith, claims_in_length a.sheet.now, c.requires.1) in
    let counted = section_start text list a.n claims_key claim_limit a.at inside c.requires.0 c.put_line-end.ensures.behind c.put_line-end.ensures.written in
    let same : get_or list c.loop-i.i no_claim ≡ c.claim_at.result = claims_in_at a.sheet.now c.loop-i.i ∙ sym c.claim_at.ensures in
    going_next text list a.n no_claim inside (writing_left c.requires.0 counted) c.loop-i-test.true c.loop-i.invariant
    (c.put_claim-end.ensures.behind ∙ ap (λ d. c.loop-i.end + length (text d)) (sym same))
    (c.put_claim-end.ensures.written ∙ ap (λ d. splice c.loop-i.end (text d) c.loop-i.buf) (sym same))

pub returns : goal.returns
returns c =
    let a = c.args in
    let text = claim_text a.version in
    let list = claims_in a.sheet.now in
    let inside : a.n ≤ length list = omega (arith, claims_in_length a.sheet.now, c.requires.1) in
    let counted = section_start text list a.n claims_key claim_limit a.at inside c.requires.0 c.put_line-end.ensures.behind c.put_line-end.ensures.written in
    let all = going_done text list a.n no_claim inside c.loop-i-test.false c.loop-i.invariant in
    let section = writing_last c.requires.0 counted all.0 all.1 in
    record { behind = section.0; written = section.1 }
