use Rattle.std.proofs.Common.{Contains, arith, subst, sym}
use Rattle.noc_workers.specs.Rounds.{start_by}
use Rattle.noc_engine.specs.Shows.{has_block}
use Rattle.noc_workers.proofs.MeetLemmas.{first-own, meets-by, meets-none}
use Rattle.noc_workers.proofs.cut.meet_one.Goals as goal

-- no links lead from the one to the other
pub returns-then-many-eq0-clause-here : goal.returns-then-many-eq0-clause-here
returns-then-many-eq0-clause-here c =
    meets-none (start_by c.args.run.now) c.args.here.now.tile c.args.there.now.tile c.in_ok-back.back.items c.requires.good c.requires.shows.0.1.plan_is c.in_ok-back.ensures.all c.args.here.now.posts.items
    (omega (arith, c.if-many-eq0.true, c.max-many.ensures, c.len-2.ensures, c.in_ok-back.back.ok.0))

pub returns-then-many-eq0-clause-there : goal.returns-then-many-eq0-clause-there
returns-then-many-eq0-clause-there c =
    meets-none (start_by c.args.run.now) c.args.there.now.tile c.args.here.now.tile c.in_ok-from.from.items c.requires.good c.requires.shows.0.1.plan_is c.in_ok-from.ensures.all c.args.there.now.posts.items
    (omega (arith, c.if-many-eq0.true, c.max-many.ensures, c.len.ensures, c.in_ok-from.from.ok.0))

pub returns-clause-here : goal.returns-clause-here
returns-clause-here c =
    let here = c.args.here.now.tile in
    meets-by (start_by c.args.run.now) here c.args.there.now.tile c.in_ok-back.back.items c.requires.good c.requires.shows.0.1.plan_is c.in_ok-back.ensures.all c.args.here.now.posts.items c.add_post.new.posts.items c.in_ok-one.one c.in_ok-add_post.ensures
    (λ b has. subst (λ bs. Contains bs b) (sym c.in_ok-one.ensures.near.0) (c.in_ok-back-2.ensures.all b has))
    (c.in_ok-one.ensures.one (has_block here) (c.in_ok-from-2.ensures.own here c.in_ok-from.ensures.own (first-own here c.requires.some.0)))

pub returns-clause-there : goal.returns-clause-there
returns-clause-there c =
    let there = c.args.there.now.tile in
    meets-by (start_by c.args.run.now) there c.args.here.now.tile c.in_ok-from.from.items c.requires.good c.requires.shows.0.1.plan_is c.in_ok-from.ensures.all c.args.there.now.posts.items c.add_post-2.new.posts.items c.in_ok-one.other c.in_ok-add_post-2.ensures
    (λ b has. subst (λ bs. Contains bs b) (sym c.in_ok-one.ensures.near.1) (c.in_ok-from-2.ensures.all b has))
    (c.in_ok-one.ensures.other (has_block there) (c.in_ok-back-2.ensures.own there c.in_ok-back.ensures.own (first-own there c.requires.some.1)))
