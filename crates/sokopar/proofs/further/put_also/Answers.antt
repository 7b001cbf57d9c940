-- The line of the fault, and the sentences.
use Rattle.sokopar.specs.Explaining.{remark_words}
use Rattle.sokopar.specs.Report.{fault_words}
use Rattle.sokopar.proofs.Behind.{also_said}
use Rattle.sokopar.proofs.further.put_also.Goals as goal

pub returns : goal.returns
returns c = also_said c.put_remark.result c.args.text.now (fault_words c.args.fault)
    (remark_words c.args.rows.now.cols c.args.rows.now.places.items c.args.remark.now) c.put.new.self c.put_fault.new.text c.put-2.new.self
    c.put_remark.new.text c.in_ok-put.ensures.ok c.in_ok-put_fault.ensures c.in_ok-put-2.ensures.ok c.put_remark.ensures
