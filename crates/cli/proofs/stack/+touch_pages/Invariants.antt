-- There is one page less to write in each call.
use Rattle.cli.proofs.stack.+touch_pages.Given as goal

abbrev pub decreases-touch_pages : goal.decreases-touch_pages
decreases-touch_pages l = l.pages
