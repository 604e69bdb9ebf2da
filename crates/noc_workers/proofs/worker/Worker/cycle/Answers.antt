use Rattle.std.proofs.Common.{◌≡◌, ◌∙◌, ◌+◌, List, ap, length, refl, subst, sym}
use Rattle.std.specs.Vec.{with_items}
use Rattle.std.proofs.lemmas.List.{with_items_is}
use Rattle.noc_workers.specs.Mails.{with_blocks}
use Rattle.noc_workers.specs.Rounds.{start_by}
use Rattle.noc_engine.specs.Shows.{has_block}
use Rattle.noc_workers.specs.Workers.{AreReady, nears_in}
use Rattle.noc_workers.specs.declared.post.Post.{Post}
use Rattle.noc_workers.specs.declared.worker.Worker.{Worker}
use Rattle.noc_workers.proofs.MailLemmas.{heard-same, same-after}
use Rattle.noc_workers.proofs.WorkerLemmas.{has-own, has-turned, may-turn, next-at, stepped-same}
use Rattle.noc_workers.proofs.worker.Worker.cycle.Goals as goal

pub turn-requires : goal.turn-requires
turn-requires g c =
    let start = start_by c.args.run.now in
    let n = c.requires.0 in
    let may = may-turn start n c.args.self.now c.requires.1 c.args.run.now.relation.now refl in
    (start.net, start.cycle + n, may.0, may.1)

pub send_all-requires : goal.send_all-requires
send_all-requires g c =
    let start = start_by c.args.run.now in
    let n = c.requires.0 in
    let worker = c.args.self.now in
    let may = c.requires.1 in (
      start,
      n,
      worker.tile,
      has-turned start n worker may c.args.run.now.relation.now c.turn.new.self refl c.turn.ensures,
      subst (λ (ps : List Post). AreReady start (has_block worker.tile) n ps) (sym c.as_mut_slice-posts.ensures.value) may.at.posts,
    )

pub returns-then-not-send_all-clause-blocks : goal.returns-then-not-send_all-clause-blocks
returns-then-not-send_all-clause-blocks g c =
    let start = start_by c.args.run.now in
    let n = c.requires.0 in
    let worker = c.args.self.now in
    heard-same start.net start.plan (start.cycle + n) _ worker.tile c.turn.new.self (has-turned start n worker c.requires.1 c.args.run.now.relation.now c.turn.new.self refl c.turn.ensures)

pub receive_all-requires : goal.receive_all-requires
receive_all-requires g c =
    let start = start_by c.args.run.now in
    let n = c.requires.0 in
    let worker = c.args.self.now in
    let may = c.requires.1 in
    let turned = has-turned start n worker may c.args.run.now.relation.now c.turn.new.self refl c.turn.ensures in
    let ready = subst (λ (ps : List Post). AreReady start (has_block worker.tile) n ps) (sym c.as_mut_slice-posts.ensures.value) may.at.posts in (
      start,
      n,
      has_block worker.tile,
      worker.tile,
      has-own start n worker may c.turn.new.self c.hear_own.new.self turned c.hear_own.ensures,
      c.if-not-send_all.ensures.sent refl start n worker.tile turned ready,
    )

pub returns-then-not-receive_all-clause-blocks : goal.returns-then-not-receive_all-clause-blocks
returns-then-not-receive_all-clause-blocks g c =
    let start = start_by c.args.run.now in
    let n = c.requires.0 in
    let worker = c.args.self.now in
    let may = c.requires.1 in
    let turned = has-turned start n worker may c.args.run.now.relation.now c.turn.new.self refl c.turn.ensures in
    let own = has-own start n worker may c.turn.new.self c.hear_own.new.self turned c.hear_own.ensures in
    same-after worker.tile c.hear_own.new.self c.receive_all.new.tile (heard-same start.net start.plan (start.cycle + n) _ worker.tile c.hear_own.new.self own) c.receive_all.ensures.tile

pub gather-requires : goal.gather-requires
gather-requires g c =
    let start = start_by c.args.run.now in
    let n = c.requires.0 in
    let worker = c.args.self.now in
    let may = c.requires.1 in
    let turned = has-turned start n worker may c.args.run.now.relation.now c.turn.new.self refl c.turn.ensures in
    let own = has-own start n worker may c.turn.new.self c.hear_own.new.self turned c.hear_own.ensures in
    let ready = subst (λ (ps : List Post). AreReady start (has_block worker.tile) n ps) (sym c.as_mut_slice-posts.ensures.value) may.at.posts in
    let sent = c.if-not-send_all.ensures.sent refl start n worker.tile turned ready in
    let heard = c.if-not-receive_all.ensures.heard refl start n (has_block worker.tile) worker.tile own sent in
    (start.net, start.cycle + n, with_blocks (has_block worker.tile) (nears_in c.send_all.new.posts), heard.0.words, heard.0.turns, worker.tile, heard.0.ran)

pub returns-clause-blocks : goal.returns-clause-blocks
returns-clause-blocks g c =
    let start = start_by c.args.run.now in
    let n = c.requires.0 in
    let worker = c.args.self.now in
    let may = c.requires.1 in
    let turned = has-turned start n worker may c.args.run.now.relation.now c.turn.new.self refl c.turn.ensures in
    let own = has-own start n worker may c.turn.new.self c.hear_own.new.self turned c.hear_own.ensures in
    let ready = subst (λ (ps : List Post). AreReady start (has_block worker.tile) n ps) (sym c.as_mut_slice-posts.ensures.value) may.at.posts in
    let sent = c.if-not-send_all.ensures.sent refl start n worker.tile turned ready in
    let heard = c.if-not-receive_all.ensures.heard refl start n (has_block worker.tile) worker.tile own sent in
    stepped-same start n worker may c.send_all.new.posts (c.send_all.ensures.near ∙ ap nears_in c.as_mut_slice-posts.ensures.value) c.receive_all.new.tile heard.0 c.gather.new.self c.gather.ensures

pub returns-clause-ran : goal.returns-clause-ran
returns-clause-ran g c = λ done n may.
    let start = start_by c.args.run.now in
    let worker = c.args.self.now in
    let turned = has-turned start n worker may c.args.run.now.relation.now c.turn.new.self refl c.turn.ensures in
    let own = has-own start n worker may c.turn.new.self c.hear_own.new.self turned c.hear_own.ensures in
    let ready = subst (λ (ps : List Post). AreReady start (has_block worker.tile) n ps) (sym c.as_mut_slice-posts.ensures.value) may.at.posts in
    let sent = c.if-not-send_all.ensures.sent refl start n worker.tile turned ready in
    let heard = c.if-not-receive_all.ensures.heard refl start n (has_block worker.tile) worker.tile own sent in
    let posts = c.receive_all.new.posts in
    let long : length posts ≡ worker.posts.len = c.receive_all.auto.posts ∙ c.send_all.auto.posts ∙ ap length c.as_mut_slice-posts.ensures.value ∙ sym worker.posts.ok.0 in
    let items : (with_items worker.posts posts).items ≡ posts = with_items_is worker.posts posts long in
    let next : Worker = record worker { tile = c.gather.new.self; posts = with_items worker.posts posts } in
    next-at start n worker may c.send_all.new.posts (c.send_all.ensures.near ∙ ap nears_in c.as_mut_slice-posts.ensures.value) c.receive_all.new.tile heard.0 c.gather.new.self c.gather.ensures next refl
    (ap nears_in items ∙ c.receive_all.ensures.near) (subst (λ (ps : List Post). AreReady start (has_block worker.tile) (n + 1) ps) (sym items) heard.1)
