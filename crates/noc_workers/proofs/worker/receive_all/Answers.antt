use Rattle.std.proofs.Common.{◌≡◌, ◌∙◌, ◌+◌, List, Some, arith, get_or, length, refl, subst, sym}
use Rattle.std.specs.List.{slice_get}
use Rattle.std.proofs.lemmas.List.{take_all}
use Rattle.std.proofs.lemmas.Option.{slice_get-get_or, slice_get_within}
use Rattle.noc_workers.specs.Mails.{HasHeard, with_blocks}
use Rattle.noc_engine.specs.Shows.{has_block}
use Rattle.noc_workers.specs.Workers.{IsReadyPost, nears_in}
use Rattle.noc_workers.specs.declared.post.Post.{Post}
use Rattle.noc_engine.proofs.ListLemmas.{left-next}
use Rattle.noc_workers.proofs.MailLemmas.{all-done, each-next, index-within, same-after}
use Rattle.noc_workers.proofs.WorkerLemmas.{near-set, nears-next}
use Rattle.noc_workers.proofs.worker.receive_all.Goals as goal

pub receive-requires : goal.receive-requires
receive-requires g c =
    let r = c.requires in
    let v = c.loop-k.invariant in
    let k = c.loop-k.k in
    let posts = c.loop-k.posts in
    let is = slice_get-get_or posts k c.index-posts-k.result (index-within k _ (length posts) c.loop-k-test.true c.loop-k.auto.posts) in
    (r.0, r.1, _, r.3, v.heard r.0 r.1 r.2 r.3 r.4 r.5, r.5 k _ (sym (v.rest k (omega arith)) ∙ is))

pub loop-k-init : goal.loop-k-init
loop-k-init g c = record {
  near = refl;
  rest = λ j l. refl;
  tile = record { first_is = refl; blocks_are = refl };
  heard = λ start n from was heard posts. heard;
  ready = λ start n from was heard posts j post l. absurd (omega (arith, l));
}

pub loop-k-preserved : goal.loop-k-preserved
loop-k-preserved g c =
    let v = c.loop-k.invariant in
    let k = c.loop-k.k in
    let posts = c.loop-k.posts in
    let old = get_or posts k c.index-posts-k.result in
    let new = c.receive.new.self in
    let e = c.if-not-receive.ensures in
    let within = index-within k _ (length posts) c.loop-k-test.true c.loop-k.auto.posts in
    let is : slice_get posts k ≡ Some old = slice_get-get_or posts k c.index-posts-k.result within in
    let before : slice_get c.args.posts.now k ≡ Some old = sym (v.rest k (omega arith)) ∙ is in
    record {
      near = near-set posts k old new is c.receive.ensures.near ∙ v.near;
      rest = left-next c.args.posts.now posts k new v.rest;
      tile = same-after c.args.tile.now c.loop-k.tile c.receive.new.tile v.tile c.receive.ensures.tile;
      heard = λ start n from was heard posts.
          subst (λ f. HasHeard start.net start.plan (start.cycle + n) f was c.receive.new.tile) (nears-next from c.args.posts.now k old before)
          (e.heard refl start n _ was (v.heard start n from was heard posts) (posts k old before)).0;
      ready = λ start n from was heard rings.
          each-next (λ j (post : Post). IsReadyPost start (has_block was) (n + 1) post) posts k new within (v.ready start n from was heard rings)
          (e.heard refl start n _ was (v.heard start n from was heard rings) (rings k old before)).1;
    }

pub returns-then-not-receive-clause-near : goal.returns-then-not-receive-clause-near
returns-then-not-receive-clause-near g c =
    let k = c.loop-k.k in
    let posts = c.loop-k.posts in
    let old = get_or posts k c.index-posts-k.result in
    let is : slice_get posts k ≡ Some old = slice_get-get_or posts k c.index-posts-k.result (index-within k _ (length posts) c.loop-k-test.true c.loop-k.auto.posts) in
    near-set posts k old c.receive.new.self is c.receive.ensures.near ∙ c.loop-k.invariant.near

pub returns-then-not-receive-clause-tile : goal.returns-then-not-receive-clause-tile
returns-then-not-receive-clause-tile g c = same-after c.args.tile.now c.loop-k.tile c.receive.new.tile c.loop-k.invariant.tile c.receive.ensures.tile

pub returns-clause-heard : goal.returns-clause-heard
returns-clause-heard g c = λ done start n from was heard rings.
    let v = c.loop-k.invariant in (
      subst (λ (ps : List Post). HasHeard start.net start.plan (start.cycle + n) (with_blocks from (nears_in ps)) was c.loop-k.tile) (take_all c.loop-k.k c.args.posts.now c.loop-k-test.false) (v.heard start n from was heard rings),
      λ j post is. v.ready start n from was heard rings j post (all-done j _ _ _ (slice_get_within c.loop-k.posts j post is) c.loop-k.auto.posts c.loop-k-test.false) is,
    )
