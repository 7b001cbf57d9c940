use Rattle.std.proofs.Common.{◌∙◌, arith}
use Rattle.xsb.proofs.Breaking.{spelled-first}
use Rattle.xsb.proofs.breaks.character_of.Goals as goal

pub returns-then-starts_with : goal.returns-then-starts_with
returns-then-starts_with c =
    spelled-first c.args.bytes.now c.as_bytes.result.now c.in_ok-character.character c.starts_with.result
    (c.as_bytes.ensures.value ∙ c.encode_utf8-text.ensures.value)
    c.starts_with.ensures.value c.if-starts_with.true (let far = c.if-character-lt-FIRST_VISIBLE.false in omega arith)
