-- Three texts in turn.
use Rattle.std.proofs.Common.{codes}
use Rattle.sokopar.specs.Explaining.{character_words}
use Rattle.sokopar.proofs.Sentencing.{three_put}
use Rattle.sokopar.proofs.sentences.put_other.Goals as goal

pub returns : goal.returns
returns c = three_put c.put-2.result c.args.text.now (codes ", ") (character_words c.args.character) (codes ", is no cell") c.put.new.self
    c.put_character.new.text c.put-2.new.self c.in_ok-put.ensures.ok c.in_ok-put_character.ensures c.put-2.ensures.ok
