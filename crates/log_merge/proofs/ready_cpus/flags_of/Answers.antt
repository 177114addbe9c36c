use Rattle.log_merge.proofs.Waking.{says_at_start}
use Rattle.log_merge.proofs.ready_cpus.flags_of.Goals as goal

pub returns : goal.returns
returns g c =
    let e = c.look_at_all.ensures in
    says_at_start (g.S.RunShape.run c.args.shape.now) c.args.at.now c.args.placed.now c.in_ok-flags.flags c.look_at_all.new.flags c.requires.cpus c.in_ok-flags.ensures.room e.room c.in_ok-flags.ensures.none e.right e.others
