-- The rings between two tiles, in a cycle.
use Rattle.std.proofs.Common.{◌≡◌, ℕ, ◌+◌, Bool, true, false, List, [], ◌∷◌, ◌++◌, All, Some, length, refl, ap, sym, ◌∙◌, subst}
use Rattle.rtrb.specs.Ring.{sent, received}
use Rattle.std.proofs.lemmas.List.{length-map}
use Rattle.noc_workers.specs.Mails.{IsMail, blocks_in}
use Rattle.noc_workers.specs.Rounds.{Follows, Start, start_in}
use Rattle.noc_workers.specs.Workers.{HaveGone, IsPost, IsReadyPost, near_in, senders}
use Rattle.noc_workers.specs.declared.mail.Mail.{Mail}
use Rattle.noc_workers.specs.declared.post.Post.{Post}
use Rattle.noc_engine.specs.declared.exchange.Told.{Told}
use Rattle.noc_engine.proofs.ListLemmas.{same-item}
use Rattle.noc_workers.proofs.RoundLemmas.{follows, gone-more, next-from, next-of, senders-more, start-kept}

-- what holds after either answer
pub either : {A : Type 0} (answer : Bool) → (answer ≡ true → A) → (answer ≡ false → A) → A
either true so not = so refl
either false so not = not refl

-- a mail has a place for each of its blocks
pub as-many-places : (mail : Mail) → length mail.told.items ≡ length (blocks_in mail)
as-many-places mail = sym (length-map mail.told.items (λ (told : Told). told.block))

module _ (start : Start) (own : ℕ → Bool) (c : ℕ) (post : Post) where
  -- ---- what goes
  module _ (mail : Mail) (ready : IsReadyPost start own c post) (there : post.mail ≡ Some mail) where
    pub ready-places : length mail.told.items ≡ length post.blocks.items
    ready-places = ap (λ (m : Mail). length m.told.items) (same-item mail ready.mail post.mail there ready.there) ∙ ready.places

    -- once it is written it may be sent
    pub may-send : (written : Mail) → blocks_in written ≡ post.blocks.items → written.start ≡ mail.start → IsMail start.net start.plan (start.cycle + c) written → Follows (sent post.out) written
    may-send written from kept right =
        follows start post.blocks.items c (sent post.out) written ready.rings.gone from
        (start-kept mail written kept ∙ ap start_in (same-item mail ready.mail post.mail there ready.there) ∙ ready.is) right

  pub post-sent : (next : Post) (mail : Mail) → IsPost start own c c post → next.blocks ≡ post.blocks → next.back ≡ post.back → sent next.out ≡ sent post.out ++ mail ∷ []
      → IsPost start own (c + 1) c next
  post-sent next mail rings from back out =
      let blocks : next.blocks.items ≡ post.blocks.items = ap (λ v. v.items) from in
      let come : received next.back ≡ received post.back = ap received back in
      record {
        gone = subst (λ f. HaveGone start f (c + 1) (sent next.out)) (sym blocks) (subst (λ (xs : List Mail). HaveGone start post.blocks.items (c + 1) xs) (sym out) (gone-more start post.blocks.items c (sent post.out) mail rings.gone));
        come = subst (λ (xs : List Mail). HaveGone start (senders xs) c xs) (sym come) rings.come;
        as_many = ap (λ (xs : List Mail). length (senders xs)) come ∙ rings.as_many ∙ ap length (sym blocks);
        ours = subst (All (λ b. own b ≡ true)) (sym blocks) rings.ours;
      }

  -- ---- what comes
  module _ (mail : Mail) (rings : IsPost start own (c + 1) c post) (follows : Follows (received post.back) mail) where
    pub from-them : blocks_in mail ≡ near_in post
    from-them = next-from start (near_in post) c (received post.back) mail rings.come follows

    module _ (next : Post) (back : received next.back ≡ received post.back ++ mail ∷ []) where
      pub post-near : near_in next ≡ near_in post
      post-near = ap senders back ∙ senders-more start (near_in post) c (received post.back) mail rings.come

      rings-next : next.blocks ≡ post.blocks → next.out ≡ post.out → IsPost start own (c + 1) (c + 1) next
      rings-next from out =
          let blocks : next.blocks.items ≡ post.blocks.items = ap (λ v. v.items) from in
          record {
            gone = subst (λ f. HaveGone start f (c + 1) (sent next.out)) (sym blocks) (subst (λ (xs : List Mail). HaveGone start post.blocks.items (c + 1) xs) (ap sent (sym out)) rings.gone);
            come = subst (λ f. HaveGone start f (c + 1) (received next.back)) (sym post-near)
                (subst (λ (xs : List Mail). HaveGone start (near_in post) (c + 1) xs) (sym back) (gone-more start (near_in post) c (received post.back) mail rings.come));
            as_many = ap length post-near ∙ rings.as_many ∙ ap length (sym blocks);
            ours = subst (All (λ b. own b ≡ true)) (sym blocks) rings.ours;
          }

      -- what has come is what goes next, as many places as before
      pub post-received : next.blocks ≡ post.blocks → next.out ≡ post.out → next.mail ≡ Some mail → IsReadyPost start own (c + 1) next
      post-received from out there = record {
        rings = rings-next from out;
        mail = mail;
        there = there;
        is = next-of start (near_in post) c (received post.back) mail rings.come follows;
        places = as-many-places mail ∙ ap length from-them ∙ rings.as_many ∙ ap (λ v. length v.items) (sym from);
      }

-- rings that are made, through which the first mails have gone
pub post-met : (start : Start) (own : ℕ → Bool) (back : List ℕ) (hello answer mail : Mail) (next : Post) → length next.blocks.items ≡ length back
    → blocks_in hello ≡ next.blocks.items → start_in hello ≡ start → blocks_in answer ≡ back → start_in answer ≡ start
    → next.mail ≡ Some mail → mail ≡ answer → sent next.out ≡ hello ∷ [] → received next.back ≡ answer ∷ []
    → All (λ b. own b ≡ true) next.blocks.items → IsReadyPost start own 0 next
post-met start own back hello answer mail next many from is their_from their_is there same out come ours = record {
  rings = record {
    gone = record { first = hello; rest = []; are = out; blocks = from; is = is; many = refl };
    come = record { first = answer; rest = []; are = come; blocks = sym (ap senders come); is = their_is; many = refl };
    as_many = ap length (ap senders come ∙ their_from) ∙ sym many;
    ours = ours;
  };
  mail = mail;
  there = there;
  is = ap start_in same ∙ their_is;
  places = ap (λ (m : Mail). length m.told.items) same ∙ as-many-places answer ∙ ap length their_from ∙ sym many;
}
