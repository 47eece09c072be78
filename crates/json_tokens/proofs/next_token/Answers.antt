-- Past the blanks it is the first byte, the quote behind it or the word there that tells the first token, in the order of the definition.
use Rattle.std.proofs.Common.{sym, ap, ◌∙◌, arith, drop_of_length-le}
use Rattle.json_tokens.specs.Tokens.{true_word, false_word, tokens}
use Rattle.json_tokens.specs.Laws.{tokens_nil}
use Rattle.json_tokens.proofs.Firsts.{word_within, tokens_none, tokens_mark, tokens_text, tokens_unclosed, tokens_true, tokens_false, tokens_no_token}
use Rattle.json_tokens.proofs.next_token.Goals as goal

pub returns-then-s-at : goal.returns-then-s-at
returns-then-s-at c = ap tokens (drop_of_length-le c.args.s.now c.if-s-at.true) ∙ tokens_nil

pub returns-then-s-i : goal.returns-then-s-i
returns-then-s-i c =
    let a = c.args in
    tokens_none a.s.now a.at c.blanks_end-i.result c.blanks_end-i.ensures.0 c.if-s-i.true

pub returns-then-is_mark : goal.returns-then-is_mark
returns-then-is_mark c =
    let a = c.args in (
      tokens_mark a.s.now a.at c.blanks_end-i.result c.blanks_end-i.ensures.0 (omega arith) (sym c.is_mark.ensures ∙ c.if-is_mark.true),
      omega arith,
      omega arith,
    )

pub returns-then-end-s : goal.returns-then-end-s
returns-then-end-s c =
    let a = c.args in (
      tokens_text a.s.now a.at c.blanks_end-i.result c.blanks_end-i.ensures.0 (omega arith)
          (sym c.is_mark.ensures ∙ c.if-is_mark.false) c.if-b-eq-QUOTE.true
          c.quote_at-end.result c.quote_at-end.ensures.1 c.quote_at-end.ensures.0 (omega arith),
      omega arith,
      omega arith,
      omega arith,
    )

pub returns-then-b-eq-QUOTE : goal.returns-then-b-eq-QUOTE
returns-then-b-eq-QUOTE c =
    let a = c.args in
    tokens_unclosed a.s.now a.at c.blanks_end-i.result c.blanks_end-i.ensures.0 (omega arith)
    (sym c.is_mark.ensures ∙ c.if-is_mark.false) c.if-b-eq-QUOTE.true c.quote_at-end.result c.quote_at-end.ensures.1 (omega arith)

pub returns-then-has_word : goal.returns-then-has_word
returns-then-has_word c =
    let a = c.args in
    let here = sym c.has_word.ensures ∙ c.if-has_word.true in
    let within = word_within true_word a.s.now c.blanks_end-i.result (omega arith) here in (
      tokens_true a.s.now a.at c.blanks_end-i.result c.blanks_end-i.ensures.0 (omega arith)
          (sym c.is_mark.ensures ∙ c.if-is_mark.false) c.if-b-eq-QUOTE.false here,
      omega arith,
      omega arith,
    )

pub returns-then-has_word-2 : goal.returns-then-has_word-2
returns-then-has_word-2 c =
    let a = c.args in
    let here = sym c.has_word-2.ensures ∙ c.if-has_word-2.true in
    let within = word_within false_word a.s.now c.blanks_end-i.result (omega arith) here in (
      tokens_false a.s.now a.at c.blanks_end-i.result c.blanks_end-i.ensures.0 (omega arith)
          (sym c.is_mark.ensures ∙ c.if-is_mark.false) c.if-b-eq-QUOTE.false (sym c.has_word.ensures ∙ c.if-has_word.false) here,
      omega arith,
      omega arith,
    )

pub returns : goal.returns
returns c =
    let a = c.args in
    tokens_no_token a.s.now a.at c.blanks_end-i.result c.blanks_end-i.ensures.0 (omega arith)
    (sym c.is_mark.ensures ∙ c.if-is_mark.false) c.if-b-eq-QUOTE.false (sym c.has_word.ensures ∙ c.if-has_word.false)
    (sym c.has_word-2.ensures ∙ c.if-has_word-2.false)
