use Rattle.page_pool.proofs.owning.keeps_the_laws.Goals as goal

pub returns-clause-gives : goal.returns-clause-gives
returns-clause-gives c o p e = let pool = c.stays_whole.ensures.logged _ c.log.ensures.kept in ((c.gives_the_least.ensures.page _ o p pool.whole).0 e).1

pub returns-clause-frees : goal.returns-clause-frees
returns-clause-frees c o p e = let pool = c.stays_whole.ensures.logged _ c.log.ensures.kept in ((c.frees_its_own.ensures.page _ o p pool.whole).0 e).1
