use Rattle.pg_start.proofs.stack.+take_pages.Given as goal

abbrev pub decreases-take_pages : goal.decreases-take_pages
decreases-take_pages l = l.pages
