use Rattle.std.proofs.Common.{◌+◌, ap, refl, subst, sym}
use Rattle.rtrb.specs.Ring.{received}
use Rattle.noc_workers.specs.Mails.{HasHeard, HasSameBlocks, with_blocks}
use Rattle.noc_engine.specs.Shows.{has_block}
use Rattle.noc_workers.specs.Workers.{near_in, senders}
use Rattle.noc_workers.specs.declared.post.Post.{Post}
use Rattle.noc_workers.proofs.MailLemmas.{both-same}
use Rattle.noc_workers.proofs.PostLemmas.{either, from-them, post-near, post-received}
use Rattle.noc_workers.proofs.RoundLemmas.{next-is}
use Rattle.noc_workers.proofs.post.Post.receive.Goals as goal

pub hear_next-requires : goal.hear_next-requires
hear_next-requires g c = λ letter follows.
    let r = c.requires in
    let post = c.args.self.now in
    (r.0.net, r.0.plan, r.0.cycle + r.1, r.2, r.3, r.4, next-is r.0 (near_in post) r.1 (received post.back) letter r.5.come follows)

pub returns-clause-near : goal.returns-clause-near
returns-clause-near g c =
    let r = c.requires in
    let post = c.args.self.now in
    let next : Post = record post { mail = c.hear_next.new.kept; back = c.hear_next.new.back } in
    either c.hear_next.result
    (λ so. let heard = c.hear_next.ensures.heard so in post-near r.0 (has_block r.3) r.1 post heard.0 r.5 heard.1 next heard.2)
    (λ not. ap senders (c.hear_next.ensures.ended not).0)

pub returns-clause-tile : goal.returns-clause-tile
returns-clause-tile g c =
    let r = c.requires in
    let post = c.args.self.now in
    either c.hear_next.result
    (λ so.
    let heard = c.hear_next.ensures.heard so in
    both-same r.0.net r.0.plan (r.0.cycle + r.1) r.2 _ r.3 c.args.tile.now c.hear_next.new.hearer r.4
    (heard.4 r.0.net r.0.plan (r.0.cycle + r.1) r.2 r.3 r.4 (next-is r.0 (near_in post) r.1 (received post.back) heard.0 r.5.come heard.1)))
    (λ not. subst (HasSameBlocks c.args.tile.now) (sym (c.hear_next.ensures.ended not).1) (record { first_is = refl; blocks_are = refl }))

pub returns-clause-heard : goal.returns-clause-heard
returns-clause-heard g c = λ done start n from was heard rings.
    let post = c.args.self.now in
    let next : Post = record post { mail = c.hear_next.new.kept; back = c.hear_next.new.back } in
    let came = c.hear_next.ensures.heard done in (
      subst (λ ns. HasHeard start.net start.plan (start.cycle + n) (with_blocks from ns) was c.hear_next.new.hearer) (from-them start (has_block was) n post came.0 rings came.1)
          (came.4 start.net start.plan (start.cycle + n) from was heard (next-is start (near_in post) n (received post.back) came.0 rings.come came.1)),
      post-received start (has_block was) n post came.0 rings came.1 next came.2 refl refl came.3,
    )
