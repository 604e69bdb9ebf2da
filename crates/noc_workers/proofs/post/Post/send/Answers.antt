use Rattle.std.proofs.Common.{◌≡◌, ◌∙◌, ◌+◌, true, All, ap, false, length, refl, subst, sym}
use Rattle.noc_engine.specs.Shows.{has_block}
use Rattle.noc_workers.specs.declared.post.Post.{Post}
use Rattle.noc_workers.proofs.MailLemmas.{heard-own}
use Rattle.noc_workers.proofs.PostLemmas.{may-send, post-sent, ready-places}
use Rattle.noc_workers.proofs.post.Post.send.Goals as goal

pub write-requires : goal.write-requires
write-requires g c =
    let r = c.requires in
    let blocks = c.as_slice.ensures.value in
    record {
      places = ready-places r.0 (has_block r.2) r.1 c.args.self.now c.in-Some.mail r.4 (sym c.take.ensures.value ∙ c.in-Some.is) ∙ ap length (sym blocks);
      own = heard-own r.0.net r.0.plan (r.0.cycle + r.1) (λ b. false) r.2 c.args.tile.now r.3 c.as_slice.result.now (subst (All (λ b. has_block r.2 b ≡ true)) (sym blocks) r.4.rings.ours);
      ran = (r.0.net, r.0.plan, r.0.cycle + r.1, λ b. false, r.2, r.3);
    }

pub put-requires : goal.put-requires
put-requires g c =
    let r = c.requires in
    may-send r.0 (has_block r.2) r.1 c.args.self.now c.in-Some.mail r.4 (sym c.take.ensures.value ∙ c.in-Some.is) c.write.new.self (c.write.ensures.blocks ∙ c.as_slice.ensures.value) c.write.ensures.start
    (c.write.ensures.is r.0.net r.0.plan (r.0.cycle + r.1) (λ b. false) r.2 r.3)

pub returns-clause-sent : goal.returns-clause-sent
returns-clause-sent g c = λ done start n was heard ready.
    let post = c.args.self.now in
    let next : Post = record post { mail = c.take.new.self; out = c.put.new.out } in
    post-sent start (has_block was) n post next c.write.new.self ready.rings refl refl (c.put.ensures.put done)
