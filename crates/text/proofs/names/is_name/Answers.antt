-- `text::names::is_name` meets its contract: by the first character and the others.
-- Assumes nothing.
use Rattle.std.proofs.Common.{sym, ◌∙◌}
use Rattle.text.proofs.NameLaws.{name_none, name_long, name_first, name_rest}
use Rattle.text.proofs.names.is_name.Goals as goal
use Rattle.text.proofs.names.is_name.Goals.{then-rest-ge-LONGEST_NAME-via-then-rest-ge-LONGEST_NAME, then-rest-ge-LONGEST_NAME-via-else-rest-ge-LONGEST_NAME+then-not-is_letter}

pub returns-in_default : goal.returns-in_default
returns-in_default c = sym (name_none _ c.in_default.ensures.cases)

pub returns-then-rest-ge-LONGEST_NAME : goal.returns-then-rest-ge-LONGEST_NAME
returns-then-rest-ge-LONGEST_NAME c =
    rw (c.in-Some.ensures.cases.0)
    (elim c.then-rest-ge-LONGEST_NAME.branch [
      | then-rest-ge-LONGEST_NAME-via-then-rest-ge-LONGEST_NAME w ↦ sym (name_long _ _ w.if-rest-ge-LONGEST_NAME.true)
      | then-rest-ge-LONGEST_NAME-via-else-rest-ge-LONGEST_NAME+then-not-is_letter w ↦
          sym (name_first _ _ (sym w.is_letter.ensures ∙ w.if-not-is_letter.true))
    ])

pub returns : goal.returns
returns c =
    rw (c.in-Some.ensures.cases.0)
    (c.are_name_characters.ensures
    ∙ sym (name_rest _ _ c.if-rest-ge-LONGEST_NAME.false (sym c.is_letter.ensures ∙ c.if-not-is_letter.false)))
