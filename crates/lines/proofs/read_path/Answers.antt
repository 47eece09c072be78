-- One lemma for each way a byte, or the text's end, can end a path or lengthen it.
use Rattle.std.proofs.Common.{◌+◌, ℕ, ◌≡◌, ap, ◌∙◌, List, [], ◌∷◌, ◌++◌, arith, get_or, set, length-append, drop}
use Rattle.register.specs.Limits.{path_limit}
use Rattle.lists.specs.Fills.{put_first}
use Rattle.lines.specs.Lines.{path_on, fault}
use Rattle.lines.proofs.Walks.{path_past, path_feed, path_low, path_high, path_full, path_next, says_no_path, says_path}
use Rattle.lines.proofs.read_path.Goals as goal
use Rattle.lines.proofs.read_path.Goals.{then-b-lt-PATH_BYTE_LEAST-via-then-b-lt-PATH_BYTE_LEAST, then-b-lt-PATH_BYTE_LEAST-via-else-b-lt-PATH_BYTE_LEAST+then-b-gt-PATH_BYTE_GREATEST, then-b-lt-PATH_BYTE_LEAST-via-else-b-lt-PATH_BYTE_LEAST+else-b-gt-PATH_BYTE_GREATEST+then-len-ge-PATH}

pub returns-then-b-eq-LINE_FEED : goal.returns-then-b-eq-LINE_FEED
returns-then-b-eq-LINE_FEED c =
    let v = c.loop-i.invariant.1 in
    says_path _ v.0 _ _ _ (c.loop-i.i + 1) _
    (v.3 ∙ path_feed v.0 _ c.loop-i.i c.loop-i-test.true c.if-b-eq-LINE_FEED.true) v.1 v.2 (omega arith) (omega arith)

pub returns-then-b-lt-PATH_BYTE_LEAST : goal.returns-then-b-lt-PATH_BYTE_LEAST
returns-then-b-lt-PATH_BYTE_LEAST c =
    let s = c.args.s.now in
    let v = c.loop-i.invariant.1 in
    let i = c.loop-i.i in
    let inside = c.loop-i-test.true in
    let other = c.if-b-eq-LINE_FEED.false in
    let unread : path_on v.0 (drop i s) ≡ fault =
    elim c.then-b-lt-PATH_BYTE_LEAST.branch [
      | then-b-lt-PATH_BYTE_LEAST-via-then-b-lt-PATH_BYTE_LEAST w ↦ path_low v.0 s i inside other (omega (arith, w.if-b-lt-PATH_BYTE_LEAST.true))
      | then-b-lt-PATH_BYTE_LEAST-via-else-b-lt-PATH_BYTE_LEAST+then-b-gt-PATH_BYTE_GREATEST w ↦
          path_high v.0 s i inside other w.if-b-lt-PATH_BYTE_LEAST.false w.if-b-gt-PATH_BYTE_GREATEST.true
      | then-b-lt-PATH_BYTE_LEAST-via-else-b-lt-PATH_BYTE_LEAST+else-b-gt-PATH_BYTE_GREATEST+then-len-ge-PATH w ↦
          path_full v.0 s i inside other w.if-b-lt-PATH_BYTE_LEAST.false w.if-b-gt-PATH_BYTE_GREATEST.false (omega (arith, v.1))
    ] in
    says_no_path s c.args.at _ (v.3 ∙ unread)

pub loop-i-preserved : goal.loop-i-preserved
loop-i-preserved c =
    let v = c.loop-i.invariant.1 in
    let x = get_or c.args.s.now c.loop-i.i 0 in (
      omega arith,
      (
        v.0 ++ (x ∷ []),
        simp length-append (omega (arith, v.1)),
        ap (λ (b : List ℕ). set b c.loop-i.len x) v.2 ∙ put_first v.0 path_limit c.loop-i.len 0 x v.1 c.if-len-ge-PATH.false,
        v.3
            ∙ path_next v.0 _ c.loop-i.i c.loop-i-test.true c.if-b-eq-LINE_FEED.false c.if-b-lt-PATH_BYTE_LEAST.false c.if-b-gt-PATH_BYTE_GREATEST.false (omega (arith, v.1)),
      ),
    )

pub returns : goal.returns
returns c =
    let v = c.loop-i.invariant.1 in
    says_no_path _ _ _ (v.3 ∙ path_past v.0 _ c.loop-i.i c.loop-i-test.false)
