use Rattle.std.proofs.Common.{ap, ◌∙◌}
use Rattle.bstr.specs.Text.{lines_of}
use Rattle.xsb.specs.inside.Reading.{cut_lines}
use Rattle.xsb.proofs.LineFeeds.{lines-of_text}
use Rattle.xsb.proofs.lines.Lines.of.Goals as goal

pub returns-clause-lines : goal.returns-clause-lines
returns-clause-lines c = ap cut_lines c.lines_with_terminator.ensures.value ∙ ap (λ t. cut_lines (lines_of t)) c.without_mark-text.ensures ∙
    lines-of_text c.args.bytes.now
