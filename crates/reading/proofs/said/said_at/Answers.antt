-- `reading::said::said_at` meets its contract: by a header or a title in its usual form, or by the way that every line can go.
-- Assumes nothing.
use mathlib.Core.Path.{sym, ap, ◌∙◌}
use Rattle.rules.specs.Text.{legal_front}
use Rattle.rules.specs.Line.{line_answer}
use Rattle.reading.proofs.said.said_at.Goals as goal

pub line_answer-requires : goal.line_answer-requires
line_answer-requires c = c.line_from-span.ensures.fronts ∙ ap (legal_front 80) (sym c.line_part.ensures.bytes)

pub returns : goal.returns
returns c =
    let l = c.line_from-span.ensures in
    record {
      line = _;
      lines = l.lines;
      says = c.line_answer.ensures ∙ ap (line_answer c.args.expected) c.line_part.ensures.bytes;
      moves = l.moves;
      ends = l.ends;
    }
