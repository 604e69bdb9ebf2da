-- What a source injects, where the words of its router show a view.
use Rattle.std.proofs.Common.{◌≡◌, ◌≢◌, ℕ, ◌+◌, ◌-◌, ◌^◌, ◌<◌, ◌≤◌, true, List, [], ◌∷◌, Option, Some, None, length, ap, arith, inl, refl, subst, sym, ◌∙◌}
use Rattle.std.proofs.lemmas.Bool.{eqb-true, false≢true}
use Rattle.std.proofs.lemmas.Option.{slice_get_within}
use Rattle.noc_topo.specs.Lists.{Has}
use Rattle.noc_packet.specs.Set.{has_bit}
use Rattle.noc_packet.specs.declared.limits.TheConstants.{MAX_DUE}
use Rattle.noc_packet.specs.declared.packet.Packet.{Packet}
use Rattle.noc_packet.proofs.SetLemmas.{has_bit-zero, zero_from_none}
use Rattle.noc_view.specs.View.{View, local_channel}
use Rattle.noc_sets.specs.Column.{Column, ShowsSending}
use Rattle.noc_sets.specs.Sets.{up_by}
use Rattle.noc_sets.specs.Source.{END, NEVER, ShowsNext, ShowsQueue, ShowsSource, Source, Start, due_of}
use Rattle.noc_sets.proofs.MemberLemmas.{power-members, up_members}
use Rattle.noc_theory.specs.Good.{IsGoodPacket, IsGoodSetup}
use Rattle.noc_theory.specs.Lockstep.{has_flit_at_source, starts_at, view_at}
use Rattle.noc_theory.specs.Network.{Setup, state_at}
use Rattle.noc_theory.proofs.join.ViewLemmas.{view_at-seen}
use Rattle.noc_theory.proofs.worms.MemberLemmas.{Has-filter}
use Rattle.noc_theory.proofs.injection.StartLemmas.{start-has}

-- ---- the packet that it injects
-- of which some flits are left
pub is-left : (starts : List Start) (c : Column) (s : Source) (v : View) → ShowsSending c v v.sending → ShowsSource starts s v → c.injecting ≢ 0 → 0 < s.left
is-left starts c s v sends shows some = by v.sending v.queue sends shows.next
  where
    by : (sending : Option (ℕ × ℕ)) (queue : List (ℕ × Packet)) → ShowsSending c v sending → ShowsNext s queue sending → 0 < s.left
    by None queue none next = absurd (some none)
    by (Some (vc, index)) [] one next = absurd next
    by (Some (vc, index)) ((number, p) ∷ rest) one next = next.0

-- and which is due before the end of time
pub is-due : (net : Setup) (n r : ℕ) (starts : List Start) (c : Column) (s : Source) → IsGoodSetup net → ShowsSending c (view_at net n r) (view_at net n r).sending
    → ShowsSource starts s (view_at net n r) → c.injecting ≢ 0 → s.due < NEVER
is-due net n r starts c s setup sends shows some = by (view_at net n r).sending (view_at net n r).queue sends shows.next shows.due good
  where
    good : (one : ℕ × Packet) → Has one (view_at net n r).queue → one.1.due ≤ MAX_DUE
    good one h =
        let there = subst (Has one) (view_at-seen net n r).queue h in
        (start-has (IsGoodPacket net.relation) net.packets r setup.packets one (Has-filter (has_flit_at_source net (state_at net n)) one (starts_at net r) there).0).1.due

    by : (sending : Option (ℕ × ℕ)) (queue : List (ℕ × Packet)) → ShowsSending c (view_at net n r) sending → ShowsNext s queue sending → s.due ≡ due_of queue
        → ((one : ℕ × Packet) → Has one queue → one.1.due ≤ MAX_DUE) → s.due < NEVER
    by None queue none next e each = absurd (some none)
    by (Some (vc, index)) [] one next e each = absurd next
    by (Some (vc, index)) ((number, p) ∷ rest) one next e each = let most = each (number, p) (inl refl) in omega (arith, e, most)

-- ---- its place in the list of starts
within : (starts : List Start) (place : ℕ) (queue : List (ℕ × Packet)) → ShowsQueue starts place queue → place < length starts
within starts place [] q = slice_get_within starts place END q
within starts place ((number, p) ∷ rest) q = slice_get_within starts place _ q.0

-- behind a packet that is due there is another start or the end
pub goes-on : (starts : List Start) (s : Source) (v : View) (cycle : ℕ) → ShowsSource starts s v → s.due ≤ cycle → cycle < NEVER → s.queue + 1 < length starts
goes-on starts s v cycle shows due small = by v.queue shows.due shows.queue
  where
    by : (queue : List (ℕ × Packet)) → s.due ≡ due_of queue → ShowsQueue starts s.queue queue → s.queue + 1 < length starts
    by [] e q = absurd (omega (arith, e, due, small))
    by ((number, p) ∷ rest) e q = within starts (s.queue + 1) rest q.2

-- ---- the channels into which it injects, one at most
module _ (c : Column) (a links : ℕ) (is : up_by a links ≡ c.injecting) where
  moved-up : (k : ℕ) → has_bit a k ≡ has_bit c.injecting (links + k)
  moved-up k =
      let back : links + k - links ≡ k = omega arith in
      sym (ap (has_bit a) back) ∙ sym (up_members a links (links + k) (omega arith)) ∙ ap (λ w. has_bit w (links + k)) is

  pub some-injected : a ≢ 0 → c.injecting ≢ 0
  some-injected some = λ none. some (zero_from_none a (λ k. moved-up k ∙ ap (λ w. has_bit w (links + k)) none ∙ has_bit-zero (links + k)))

  pub one-injected : (v : View) → ShowsSending c v v.sending → (x y : ℕ) → has_bit a x ≡ true → has_bit a y ≡ true → x ≡ y
  one-injected v sends x y ex ey = by v.sending sends
    where
      by : (sending : Option (ℕ × ℕ)) → ShowsSending c v sending → x ≡ y
      by None none = absurd (false≢true (sym (moved-up x ∙ ap (λ w. has_bit w (links + x)) none ∙ has_bit-zero (links + x)) ∙ ex))
      by (Some (vc, index)) one =
          let there : links + x ≡ local_channel v.site vc = at x ex one.1 in
          let too : links + y ≡ local_channel v.site vc = at y ey one.1 in
          omega (arith, there, too)
        where
          at : (k : ℕ) → has_bit a k ≡ true → c.injecting ≡ 2 ^ local_channel v.site vc → links + k ≡ local_channel v.site vc
          at k e same = eqb-true (links + k) (local_channel v.site vc) (sym (power-members (local_channel v.site vc) (links + k)) ∙ sym (ap (λ w. has_bit w (links + k)) same) ∙ sym (moved-up k) ∙ e)
