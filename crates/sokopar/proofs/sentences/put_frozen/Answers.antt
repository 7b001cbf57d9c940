-- The places follow the reason.
use Rattle.sokopar.proofs.Sentencing.{then_said}
use Rattle.sokopar.proofs.sentences.put_frozen.Goals as goal

pub returns : goal.returns
returns c = then_said c.put_sentences.result _ _ _ _ _ c.in_ok-put_sentence.ensures c.put_sentences.ensures
