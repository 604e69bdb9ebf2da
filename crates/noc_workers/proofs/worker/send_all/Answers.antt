use Rattle.std.proofs.Common.{◌≡◌, ◌∙◌, ◌+◌, Some, arith, get_or, length, refl, sym}
use Rattle.std.specs.List.{slice_get}
use Rattle.std.proofs.lemmas.Option.{slice_get-get_or, slice_get_within}
use Rattle.noc_engine.specs.Shows.{has_block}
use Rattle.noc_workers.specs.Workers.{IsPost}
use Rattle.noc_workers.specs.declared.post.Post.{Post}
use Rattle.noc_engine.proofs.ListLemmas.{left-next}
use Rattle.noc_workers.proofs.MailLemmas.{all-done, each-next, index-within}
use Rattle.noc_workers.proofs.WorkerLemmas.{near-set}
use Rattle.noc_workers.proofs.worker.send_all.Goals as goal

pub send-requires : goal.send-requires
send-requires g c =
    let r = c.requires in
    let k = c.loop-k.k in
    let posts = c.loop-k.posts in
    let is = slice_get-get_or posts k c.index-posts-k.result (index-within k _ (length posts) c.loop-k-test.true c.loop-k.auto.posts) in
    (r.0, r.1, r.2, r.3, r.4 k _ (sym (c.loop-k.invariant.rest k (omega arith)) ∙ is))

pub loop-k-init : goal.loop-k-init
loop-k-init g c = record { near = refl; rest = λ j l. refl; sent = λ start n was heard ready j post l. absurd (omega (arith, l)) }

pub loop-k-preserved : goal.loop-k-preserved
loop-k-preserved g c =
    let v = c.loop-k.invariant in
    let k = c.loop-k.k in
    let posts = c.loop-k.posts in
    let old = get_or posts k c.index-posts-k.result in
    let new = c.send.new.self in
    let within = index-within k _ (length posts) c.loop-k-test.true c.loop-k.auto.posts in
    let is : slice_get posts k ≡ Some old = slice_get-get_or posts k c.index-posts-k.result within in
    record {
      near = near-set posts k old new is c.send.ensures.near ∙ v.near;
      rest = left-next c.args.posts.now posts k new v.rest;
      sent = λ start n was heard ready.
          each-next (λ j (post : Post). IsPost start (has_block was) (n + 1) n post) posts k new within (v.sent start n was heard ready)
          (c.if-not-send.ensures.sent refl start n was heard (ready k old (sym (v.rest k (omega arith)) ∙ is)));
    }

pub returns-then-not-send-clause-near : goal.returns-then-not-send-clause-near
returns-then-not-send-clause-near g c =
    let k = c.loop-k.k in
    let posts = c.loop-k.posts in
    let old = get_or posts k c.index-posts-k.result in
    let is : slice_get posts k ≡ Some old = slice_get-get_or posts k c.index-posts-k.result (index-within k _ (length posts) c.loop-k-test.true c.loop-k.auto.posts) in
    near-set posts k old c.send.new.self is c.send.ensures.near ∙ c.loop-k.invariant.near

pub returns-clause-sent : goal.returns-clause-sent
returns-clause-sent g c = λ done start n was heard ready j post is.
    c.loop-k.invariant.sent start n was heard ready j post (all-done j _ _ _ (slice_get_within c.loop-k.posts j post is) c.loop-k.auto.posts c.loop-k-test.false) is
