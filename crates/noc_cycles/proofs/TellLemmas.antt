-- What is noted over one link, and of all grants of a block.
use Rattle.std.proofs.Common.{◌≡◌, ◌≢◌, ◌⊎◌, ℕ, ◌+◌, ◌*◌, ◌/◌, ◌%◌, ◌<◌, ◌≤◌, Bool, true, false, List, [], Option, Some, None, ap, ap₂, sym, subst, ◌∙◌, refl, arith, inl, inr}
use Rattle.std.specs.Prelude.{if◌then◌else◌, is_some, nat_eq, nat_lt, slice_index_or}
use Rattle.std.proofs.lemmas.Bool.{ltb-true}
use Rattle.std.proofs.lemmas.Nat.{div-add-mod', mod_below}
use Rattle.noc_topo.specs.Shape.{IsGrid, ports}
use Rattle.noc_topo.proofs.LinkLemmas.{hop_of, link_back}
use Rattle.noc_sets.specs.Unions.{some_below}
use Rattle.noc_sets.proofs.MemberLemmas.{or-cases}
use Rattle.noc_columns.specs.Given.{IsGiven, is_of}
use Rattle.noc_columns.specs.Supply.{digits_by, number_in}
use Rattle.noc_columns.specs.declared.given.Grant.{Grant}
use Rattle.noc_columns.proofs.ChannelLemmas.{channels-apart}
use Rattle.noc_columns.proofs.PassLemmas.{some-next}
use Rattle.noc_columns.proofs.SupplyLemmas.{number-is}
use Rattle.noc_columns.proofs.UsedLemmas.{channels-few, index-below}
use Rattle.noc_cycles.proofs.Common.{and_parts, cases_eq, eq-eqb, eqb-true, true≢false, div-mul-add, mod-mul-add, has_bit, Grid, local_port, neighbour, nodes, opposite, packet_in, channels_of, set_of, word, apart, below-members, member-is, number_or_nowhere, NotesSome, Block, Pattern}
use Rattle.noc_cycles.specs.Told.{AreNotes, AreTold, IsNotedOver, NotesFirst, heard, heard_over, noted, port_in, told_by, vc_in}
use Rattle.noc_cycles.specs.declared.around.Around.{Around}
use Rattle.noc_cycles.specs.declared.notes.Note.{Note}

module _ (g : Grid) (sound : IsGrid g) (s port vc packet vcs : ℕ) where
  -- for the router at the other end of it
  pub noted-over : (node there : ℕ) (old new : List Note) → node ≡ number_or_nowhere (neighbour g s port) → node ≢ 65535 → there ≡ opposite port * vcs + vc → noted new node there ≡ Some packet
      → ((r i : ℕ) → (r ≢ node) ⊎ (i ≢ there) → noted new r i ≡ noted old r i) → IsNotedOver vcs vc packet old new (neighbour g s port)
  noted-over node there old new is some at here others = by (neighbour g s port) refl
    where
      by : (o : Option (ℕ × ℕ)) → neighbour g s port ≡ o → IsNotedOver vcs vc packet old new (neighbour g s port)
      by None e = absurd (some (is ∙ ap number_or_nowhere e))
      by (Some (to, back)) e =
          let same : node ≡ to = is ∙ ap number_or_nowhere e in
          let end : there ≡ back * vcs + vc = at ∙ ap (λ p. p * vcs + vc) (sym (hop_of g s port to back sound e).port) in
          let both : (noted new to (back * vcs + vc) ≡ Some packet) × ((r i : ℕ) → (r ≢ to) ⊎ (i ≢ back * vcs + vc) → noted new r i ≡ noted old r i)
          = subst (λ n. (noted new to n ≡ Some packet) × ((r i : ℕ) → (r ≢ to) ⊎ (i ≢ n) → noted new r i ≡ noted old r i)) end
          (subst (λ n. (noted new n there ≡ Some packet) × ((r i : ℕ) → (r ≢ n) ⊎ (i ≢ there) → noted new r i ≡ noted old r i)) same (here, others)) in
          subst (IsNotedOver vcs vc packet old new) (sym e) both

  -- there is none
  none-noted : (old : List Note) → ((to back : ℕ) → neighbour g s port ≡ Some (to, back) → ⊥) → IsNotedOver vcs vc packet old old (neighbour g s port)
  none-noted old none = by (neighbour g s port) refl
    where
      by : (o : Option (ℕ × ℕ)) → neighbour g s port ≡ o → IsNotedOver vcs vc packet old old (neighbour g s port)
      by None e = let same : (r i : ℕ) → noted old r i ≡ noted old r i = λ r i. refl in subst (IsNotedOver vcs vc packet old old) (sym e) same
      by (Some (to, back)) e = absurd (none to back e)

  pub none-over : (node : ℕ) (old : List Note) → s < nodes g → node ≡ number_or_nowhere (neighbour g s port) → node ≡ 65535 → IsNotedOver vcs vc packet old old (neighbour g s port)
  none-over node old known is nowhere = none-noted old (λ to back e.
      let there = (link_back g s port to back sound known e).node in
      let few = sound.few_nodes in
      let same : to ≡ 65535 = sym (ap number_or_nowhere e) ∙ sym is ∙ nowhere in
      omega (arith, there, few, same))

  pub none-local : (old : List Note) → local_port g ≤ port → IsNotedOver vcs vc packet old old (neighbour g s port)
  none-local old beyond = none-noted old (λ to back e. let link = (hop_of g s port to back sound e).link in omega (arith, link, beyond))

-- ---- grant after grant
module _ (g : Grid) (pattern : Pattern) (around : Around) (block : Block) (tells : ℕ → ℕ → Option ℕ) (told : AreTold g pattern around block tells) where
  abbrev vcs : ℕ
  vcs = pattern.table.ports.links.vcs

  abbrev node : ℕ → ℕ
  node r = 64 * around.block + r

  -- a grant of router r to input channel k
  abbrev Granted : ℕ → ℕ → Type 0
  Granted r k = has_bit (set_of (channels_of pattern.table.ports) r block.grants.granted) k ≡ true

  -- what is heard at the other end of a link
  heard-there : (r k to back : ℕ) → r < 64 → Granted r k → neighbour g (node r) (port_in pattern.table.ports block r k) ≡ Some (to, back)
      → heard g vcs (told_by around.block tells) to (back * vcs + vc_in pattern.table.ports block r k) ≡ Some (packet_in block.packets r k)
  heard-there r k to back few granted e =
      let one = told.each r few in
      let vc = one.vc_is k granted in
      let link = link_back g (node r) (port_in pattern.table.ports block r k) to back told.wired.sound (one.router k granted) e in
      ap₂ (λ v p. heard_over vcs (told_by around.block tells) v (neighbour g to p)) (mod-mul-add back vcs (vc_in pattern.table.ports block r k) vc) (div-mul-add back vcs (vc_in pattern.table.ports block r k) vc)
      ∙ ap (heard_over vcs (told_by around.block tells) (vc_in pattern.table.ports block r k)) link.back
      ∙ ap (λ b. if b then tells (node r) (port_in pattern.table.ports block r k * vcs + vc_in pattern.table.ports block r k) else None) (eq-eqb (node r / 64) around.block (omega (arith, few)))
      ∙ one.each k granted

  module _ (r k : ℕ) (few : r < 64) (granted : Granted r k) (old new : List Note) (Before After : ℕ → ℕ → Type 0) (split : (s j : ℕ) → After s j → Before s j ⊎ ((s ≡ r) × (j ≡ k)))
      (was : NotesSome g pattern around block tells Before old)
      (over : IsNotedOver vcs (vc_in pattern.table.ports block r k) (packet_in block.packets r k) old new (neighbour g (node r) (port_in pattern.table.ports block r k))) where
    -- where a link leads and where none does
    next-by : (o : Option (ℕ × ℕ)) → neighbour g (node r) (port_in pattern.table.ports block r k) ≡ o → IsNotedOver vcs (vc_in pattern.table.ports block r k) (packet_in block.packets r k) old new o → NotesSome g pattern around block tells After new
    next-by None e same = record {
      right = λ t i p is. was.right t i p (sym (same t i) ∙ is);
      are = λ s j to port l after bit link. elim (split s j after) [
        | inl before ↦ ap is_some (same to _) ∙ was.are s j to port l before bit link
        | inr it ↦
            let none : neighbour g (node r) (port_in pattern.table.ports block r k) ≡ Some (to, port)
            = subst (λ n. neighbour g (node r) (port_in pattern.table.ports block r n) ≡ Some (to, port)) it.1 (subst (λ n. neighbour g (node n) (port_in pattern.table.ports block n j) ≡ Some (to, port)) it.0 link) in
            let never : None ≡ Some (to, port) = sym e ∙ none in
            absurd (cc never)
      ];
    }
    next-by (Some (t, back)) e noted_there = record {
      right = λ u i p is. right u i p is (cases_eq u t) (cases_eq i (back * vcs + vc_in pattern.table.ports block r k));
      are = λ s j to port l after bit link. elim (split s j after) [
        | inl before ↦ stays to _ (was.are s j to port l before bit link) (cases_eq to t) (cases_eq (port * vcs + vc_in pattern.table.ports block s j) (back * vcs + vc_in pattern.table.ports block r k))
        | inr it ↦
            let there : Some (t, back) ≡ Some (to, port)
            = sym e ∙ subst (λ n. neighbour g (node r) (port_in pattern.table.ports block r n) ≡ Some (to, port)) it.1 (subst (λ n. neighbour g (node n) (port_in pattern.table.ports block n j) ≡ Some (to, port)) it.0 link) in
            let pair : (t, back) ≡ (to, port) = cc there in
            let router : to ≡ t = sym (ap (λ (q : ℕ × ℕ). q.0) pair) in
            let back_is : port ≡ back = sym (ap (λ (q : ℕ × ℕ). q.1) pair) in
            ap₂ (λ n m. is_some (noted new n m)) router (ap₂ (λ q v. q * vcs + v) back_is (ap₂ (vc_in pattern.table.ports block) it.0 it.1)) ∙ ap is_some noted_there.0
      ];
    }
      where
        right : (u i p : ℕ) → noted new u i ≡ Some p → (u ≡ t) ⊎ (u ≢ t) → (i ≡ back * vcs + vc_in pattern.table.ports block r k) ⊎ (i ≢ back * vcs + vc_in pattern.table.ports block r k)
            → heard g vcs (told_by around.block tells) u i ≡ Some p
        right u i p is (inl here) (inl at) = ap₂ (heard g vcs (told_by around.block tells)) here at ∙ heard-there r k t back few granted e ∙ sym noted_there.0 ∙ sym (ap₂ (noted new) here at) ∙ is
        right u i p is (inr other) c = was.right u i p (sym (noted_there.1 u i (inl other)) ∙ is)
        right u i p is (inl here) (inr other) = was.right u i p (sym (noted_there.1 u i (inr other)) ∙ is)

        stays : (u i : ℕ) → is_some (noted old u i) ≡ true → (u ≡ t) ⊎ (u ≢ t) → (i ≡ back * vcs + vc_in pattern.table.ports block r k) ⊎ (i ≢ back * vcs + vc_in pattern.table.ports block r k)
            → is_some (noted new u i) ≡ true
        stays u i some (inl here) (inl at) = ap is_some (ap₂ (noted new) here at ∙ noted_there.0)
        stays u i some (inr other) c = ap is_some (noted_there.1 u i (inl other)) ∙ some
        stays u i some (inl here) (inr other) = ap is_some (noted_there.1 u i (inr other)) ∙ some

    pub notes-next : NotesSome g pattern around block tells After new
    notes-next = next-by (neighbour g (node r) (port_in pattern.table.ports block r k)) refl over

  -- a channel that has a grant is one of the router
  pub granted-below : (r k : ℕ) → Granted r k → k < (pattern.table.ports.links.width + 1) * vcs
  granted-below r k granted =
      let parts = and_parts (nat_lt k ((pattern.table.ports.links.width + 1) * vcs)) _ (sym (below-members ((pattern.table.ports.links.width + 1) * vcs) (λ c. has_bit (word ((channels_of pattern.table.ports).index c) block.grants.granted) r) k) ∙ granted) in
      ltb-true k ((pattern.table.ports.links.width + 1) * vcs) parts.0

  -- .. by the word of the channel
  pub granted-word : (r k index : ℕ) → index ≡ (channels_of pattern.table.ports).index k → k < (pattern.table.ports.links.width + 1) * vcs
      → has_bit (set_of (channels_of pattern.table.ports) r block.grants.granted) k ≡ has_bit (word index block.grants.granted) r
  granted-word r k index is below = member-is (channels_of pattern.table.ports) r k block.grants.granted below ∙ ap (λ j. has_bit (word j block.grants.granted) r) (sym is)

  -- .. and is given
  pub granted-given : (r k : ℕ) → r < 64 → Granted r k → some_below block.grants.count (is_of block.grants.given r ((channels_of pattern.table.ports).index k)) ≡ true
  granted-given r k few granted =
      let below = granted-below r k granted in
      let index = (channels_of pattern.table.ports).index k in
      let low = index-below pattern.table.ports k below in
      let all = channels-few pattern.table.ports in
      block.grants.all r index few (omega (arith, low, all)) (sym (granted-word r k index refl below) ∙ granted)

  -- none at first
  pub notes-none : (Done : ℕ → ℕ → Type 0) → ((s j : ℕ) → Done s j → ⊥) → NotesSome g pattern around block tells Done []
  notes-none Done none = record {
    right = λ t i p is. let never : None ≡ Some p = is in absurd (cc never);
    are = λ s j to port l done. absurd (none s j done);
  }

  -- what is done in other words
  pub notes-same : (Before After : ℕ → ℕ → Type 0) (notes : List Note) → ((s j : ℕ) → s < 64 → Granted s j → After s j → Before s j) → NotesSome g pattern around block tells Before notes → NotesSome g pattern around block tells After notes
  notes-same Before After notes same are = record {
    right = are.right;
    are = λ s j to port l done bit link. are.are s j to port l (same s j l bit done) bit link;
  }

  -- ---- the grant at one place
  module _ (i : ℕ) (within : i < block.grants.count) where
    abbrev index : ℕ → ℕ
    index = (channels_of pattern.table.ports).index

    abbrev size : ℕ
    size = (pattern.table.ports.links.width + 1) * vcs

    abbrev e : Grant
    e = slice_index_or block.grants.given i (record { router = 0; index = 0; port = 0; vc = 0 })

    its : IsGiven e block.grants.granted block.grants.sends
    its = block.grants.right i (record { router = 0; index = 0; port = 0; vc = 0 }) within

    -- it is noted, or an earlier one
    earlier : (s j : ℕ) → some_below (i + 1) (is_of block.grants.given s (index j)) ≡ true → (some_below i (is_of block.grants.given s (index j)) ≡ true) ⊎ ((s ≡ e.router) × (index j ≡ e.index))
    earlier s j after = elim (or-cases (some_below i (is_of block.grants.given s (index j))) (is_of block.grants.given s (index j) i) (sym (some-next i (is_of block.grants.given s (index j))) ∙ after)) [
      | inl before ↦ inl before
      | inr here ↦
          let both = and_parts (nat_eq e.router s) (nat_eq e.index (index j)) here in
          inr (sym (eqb-true e.router s both.0), sym (eqb-true e.index (index j) both.1))
    ]

    -- to channel k
    module _ (k : ℕ) (few : k < size) (at : index k ≡ e.index) where
      pub it-granted : Granted e.router k
      it-granted = granted-word e.router k e.index (sym at) few ∙ its.granted_is

      pub it-below : e.router < 64
      it-below = its.router

      pub it-port : port_in pattern.table.ports block e.router k ≡ e.port
      it-port = number-is (channels_of pattern.table.ports) e.router k block.grants.sends.port few ∙ ap (λ m. number_in (digits_by (word m) block.grants.sends.port) e.router) at ∙ its.port

      pub it-vc : vc_in pattern.table.ports block e.router k ≡ e.vc
      it-vc = number-is (channels_of pattern.table.ports) e.router k block.grants.sends.vc few ∙ ap (λ m. number_in (digits_by (word m) block.grants.sends.vc) e.router) at ∙ its.vc

      pub first-next : (old new : List Note) → NotesFirst g pattern around block tells i old → IsNotedOver vcs e.vc (packet_in block.packets e.router k) old new (neighbour g (node e.router) e.port) → NotesFirst g pattern around block tells (i + 1) new
      first-next old new was over = notes-same
          (λ s j. (some_below i (is_of block.grants.given s (index j)) ≡ true) ⊎ ((s ≡ e.router) × (j ≡ k))) (λ s j. some_below (i + 1) (is_of block.grants.given s (index j)) ≡ true) new
          (λ s j low granted after. elim (earlier s j after) [
            | inl before ↦ inl before
            | inr it ↦ inr (it.0, channels-apart pattern.table.ports j k (granted-below s j granted) few (it.1 ∙ sym at))
          ])
          (notes-next e.router k its.router it-granted old new (λ s j. some_below i (is_of block.grants.given s (index j)) ≡ true) (λ s j. (some_below i (is_of block.grants.given s (index j)) ≡ true) ⊎ ((s ≡ e.router) × (j ≡ k)))
          (λ s j after. after) was
          (subst (λ p. IsNotedOver vcs (vc_in pattern.table.ports block e.router k) (packet_in block.packets e.router k) old new (neighbour g (node e.router) p)) (sym it-port)
          (subst (λ v. IsNotedOver vcs v (packet_in block.packets e.router k) old new (neighbour g (node e.router) e.port)) (sym it-vc) over)))

    -- to none of them
    pub first-none : (notes : List Note) → size ≤ e.index → NotesFirst g pattern around block tells i notes → NotesFirst g pattern around block tells (i + 1) notes
    first-none notes beyond = notes-same
        (λ s j. some_below i (is_of block.grants.given s (index j)) ≡ true) (λ s j. some_below (i + 1) (is_of block.grants.given s (index j)) ≡ true) notes
        (λ s j low granted after. elim (earlier s j after) [
          | inl before ↦ before
          | inr it ↦ let few = index-below pattern.table.ports j (granted-below s j granted) in let same = it.1 in absurd (omega (arith, few, same, beyond))
        ])

  -- at the end all is noted
  pub notes-all : (n : ℕ) (notes : List Note) → n ≡ (pattern.table.ports.links.width + 1) * vcs → NotesSome g pattern around block tells (λ s j. j < n) notes → AreNotes g vcs (told_by around.block tells) notes
  notes-all n notes all are = λ r i known below. at r i known below (noted notes r i) refl (heard g vcs (told_by around.block tells) r i) refl
    where
      at : (r i : ℕ) → r < nodes g → i < ports g * vcs → (x : Option ℕ) → noted notes r i ≡ x → (y : Option ℕ) → heard g vcs (told_by around.block tells) r i ≡ y → noted notes r i ≡ heard g vcs (told_by around.block tells) r i
      at r i known below (Some p) e y f = e ∙ sym (are.right r i p e)
      at r i known below None e None f = e ∙ sym f
      at r i known below None e (Some p) f = absurd (unheard (neighbour g r (i / vcs)) refl f)
        where
          low : (s : ℕ) → s % 64 < 64
          low s = omega arith

          within : i % vcs < vcs
          within = mod_below i vcs pattern.some

          -- what a router tells is noted
          known-there : (s q : ℕ) → neighbour g r (i / vcs) ≡ Some (s, q) → s / 64 ≡ around.block → tells s (q * vcs + i % vcs) ≡ Some p → ⊥
          known-there s q link home said =
              let back = link_back g r (i / vcs) s q told.wired.sound known link in
              let whole : node (s % 64) ≡ s = omega (arith, home) in
              let one = told.each (s % 64) (low s) in
              let inside : q * vcs + i % vcs < ports g * vcs = apart q (ports g) vcs (i % vcs) (let l = back.port in omega (arith, l)) within in
              let found = one.all (q * vcs + i % vcs) p inside (ap (λ n. tells n (q * vcs + i % vcs)) whole ∙ said) in
              let small = one.vc_is found.0 found.1 in
              let port : port_in pattern.table.ports block (s % 64) found.0 ≡ q
              = sym (div-mul-add (port_in pattern.table.ports block (s % 64) found.0) vcs (vc_in pattern.table.ports block (s % 64) found.0) small) ∙ ap (λ o. o / vcs) found.2 ∙ div-mul-add q vcs (i % vcs) within in
              let vc : vc_in pattern.table.ports block (s % 64) found.0 ≡ i % vcs
              = sym (mod-mul-add (port_in pattern.table.ports block (s % 64) found.0) vcs (vc_in pattern.table.ports block (s % 64) found.0) small) ∙ ap (λ o. o % vcs) found.2 ∙ mod-mul-add q vcs (i % vcs) within in
              let led : neighbour g (node (s % 64)) (port_in pattern.table.ports block (s % 64) found.0) ≡ Some (r, i / vcs) = ap₂ (neighbour g) whole port ∙ back.back in
              let some = are.are (s % 64) found.0 r (i / vcs) (low s) (subst (λ m. found.0 < m) (sym all) (granted-below (s % 64) found.0 found.1)) found.1 led in
              true≢false (sym some ∙ ap (λ j. is_some (noted notes r j)) (ap (λ v. i / vcs * vcs + v) vc ∙ div-add-mod' i vcs) ∙ ap is_some e)

          unheard : (o : Option (ℕ × ℕ)) → neighbour g r (i / vcs) ≡ o → heard_over vcs (told_by around.block tells) (i % vcs) o ≡ Some p → ⊥
          unheard None link h = let never : None ≡ Some p = h in cc never
          unheard (Some (s, q)) link h = own (nat_eq (s / 64) around.block) refl h
            where
              own : (b : Bool) → nat_eq (s / 64) around.block ≡ b → (if b then tells s (q * vcs + i % vcs) else None) ≡ Some p → ⊥
              own true home said = known-there s q link (eqb-true (s / 64) around.block home) said
              own false away said = let never : None ≡ Some p = said in cc never
