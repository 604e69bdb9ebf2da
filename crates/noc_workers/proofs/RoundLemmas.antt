-- What goes through the rings between two tiles.
use Rattle.std.proofs.Common.{◌≡◌, ℕ, ◌+◌, List, [], ◌∷◌, ◌++◌, length, ap, sym, ◌∙◌, subst}
use Rattle.std.proofs.lemmas.List.{length_push}
use Rattle.noc_packet.specs.declared.packet.Packet.{Packet}
use Rattle.noc_route.specs.Routes.{Routes}
use Rattle.noc_workers.specs.Mails.{IsMail, blocks_in}
use Rattle.noc_workers.specs.Rounds.{Follows, Start, start_in, start_of}
use Rattle.noc_workers.specs.Workers.{HaveGone, senders}
use Rattle.noc_workers.specs.declared.mail.Mail.{Mail}
use Rattle.noc_workers.specs.declared.origin.Origin.{Origin}
use Rattle.noc_engine.specs.declared.plan.Plan.{Plan}

-- a mail stays of its run
pub start-kept : (a b : Mail) → b.start ≡ a.start → start_in b ≡ start_in a
start-kept a b e = ap (λ (o : Origin). start_of o.relation.value o.depth.value o.packets.value.items o.plan.value o.cycle.value) e

module _ (start : Start) (from : List ℕ) (many : ℕ) (mails : List Mail) (mail : Mail) (gone : HaveGone start from many mails) where
  -- what may go next
  pub follows : blocks_in mail ≡ from → start_in mail ≡ start → IsMail start.net start.plan (start.cycle + many) mail → Follows mails mail
  follows here of right = subst (λ (xs : List Mail). Follows xs mail) (sym gone.are) (
    here ∙ sym gone.blocks,
    of ∙ sym gone.is,
    subst (λ (x : Start). IsMail x.net x.plan (x.cycle + length gone.rest) mail) (sym gone.is)
        (subst (λ (k : ℕ). IsMail start.net start.plan (start.cycle + k) mail) (sym gone.many) right),
  )

  -- .. and what is known of what comes next
  module _ (next : Follows mails mail) where
    after-first : Follows (gone.first ∷ gone.rest) mail
    after-first = subst (λ (xs : List Mail). Follows xs mail) gone.are next

    pub next-from : blocks_in mail ≡ from
    next-from = after-first.0 ∙ gone.blocks

    pub next-of : start_in mail ≡ start
    next-of = after-first.1 ∙ gone.is

    pub next-is : IsMail start.net start.plan (start.cycle + many) mail
    next-is =
        subst (λ (k : ℕ). IsMail start.net start.plan (start.cycle + k) mail) gone.many
        (subst (λ (x : Start). IsMail x.net x.plan (x.cycle + length gone.rest) mail) gone.is after-first.2)

  pub gone-more : HaveGone start from (many + 1) (mails ++ mail ∷ [])
  gone-more = record {
    first = gone.first;
    rest = gone.rest ++ mail ∷ [];
    are = ap (λ (xs : List Mail). xs ++ mail ∷ []) gone.are;
    blocks = gone.blocks;
    is = gone.is;
    many = length_push gone.rest mail ∙ ap (λ k. k + 1) gone.many;
  }

  pub senders-more : senders (mails ++ mail ∷ []) ≡ senders mails
  senders-more = ap (λ (xs : List Mail). senders (xs ++ mail ∷ [])) gone.are ∙ ap senders (sym gone.are)

-- the same run
pub same-start : (r s : Routes) (d e : ℕ) (ps qs : List Packet) (p q : Plan) (c n : ℕ) → r ≡ s → d ≡ e → ps ≡ qs → p ≡ q → c ≡ n → start_of r d ps p c ≡ start_of s e qs q n
same-start r s d e ps qs p q c n a f g h k =
    ap (λ (x : Routes). start_of x d ps p c) a ∙ ap (λ x. start_of s x ps p c) f ∙ ap (λ (x : List Packet). start_of s e x p c) g
    ∙ ap (λ (x : Plan). start_of s e qs x c) h ∙ ap (λ x. start_of s e qs q x) k
