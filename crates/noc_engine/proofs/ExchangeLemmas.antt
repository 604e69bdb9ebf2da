-- What blocks exchange, by the tables of a plan.
use Rattle.std.proofs.Common.{◌≡◌, ◌≢◌, ℕ, zero, suc, ◌+◌, ◌*◌, ◌/◌, ◌%◌, ◌<◌, ◌≤◌, List, [], ◌∷◌, Vec, Global, Some, length, set as write, get_or, get_or-set_same, get_or-set_other, vec_capacity, ap, sym, ◌∙◌, subst, refl, arith, inl, inr}
use Rattle.std.specs.Prelude.{◌⊎◌, Option, slice_get, if◌then◌else◌}
use Rattle.std.proofs.lemmas.Bool.{cases_eq, cases_lt, le-ltb, lt-ltb}
use Rattle.std.proofs.lemmas.List.{length-set}
use Rattle.std.proofs.lemmas.Option.{slice_get_within}
use Rattle.noc_topo.specs.Shape.{Grid, nodes}
use Rattle.noc_sets.specs.Cycle.{Links as Left}
use Rattle.noc_theory.specs.Good.{IsGoodSetup}
use Rattle.noc_theory.specs.Network.{Setup}
use Rattle.noc_columns.specs.Heads.{packet_in}
use Rattle.noc_columns.specs.Picks.{channels_of}
use Rattle.noc_columns.specs.Words.{set_of}
use Rattle.noc_columns.specs.declared.channels.Links.{Links}
use Rattle.noc_columns.specs.declared.ports.RouterPorts.{RouterPorts}
use Rattle.noc_cycles.specs.Around.{IsAround}
use Rattle.noc_cycles.specs.Gathered.{IsWired, ShowAllLeft, brought}
use Rattle.noc_cycles.specs.Held.{links_at}
use Rattle.noc_cycles.specs.Told.{AreNotes, AreTold, HaveRoom, Tells, notes_by, port_in, told_by, vc_in}
use Rattle.noc_cycles.specs.declared.around.Around.{Around}
use Rattle.noc_cycles.specs.declared.block.Block.{Block}
use Rattle.noc_cycles.specs.declared.notes.Note.{Note}
use Rattle.noc_engine.specs.Passes.{coming}
use Rattle.noc_engine.specs.Shows.{IsPlanOf}
use Rattle.noc_engine.specs.Tiles.{AreNotesBy, left_of}
use Rattle.noc_engine.specs.declared.plan.Plan.{Plan}
use Rattle.noc_engine.proofs.ListLemmas.{block-of, place-of}

-- ---- the notes of a block, and of the others

pub notes-here : (told : List (Vec Note Global)) (b : ℕ) (x : Vec Note Global) → b < length told → notes_by (write told b x) b ≡ x.items
notes-here [] b x l = absurd (omega (arith, l))
notes-here (y ∷ told) zero x l = refl
notes-here (y ∷ told) (suc b) x l = notes-here told b x (omega (arith, l))

pub notes-other : (told : List (Vec Note Global)) (n b : ℕ) (x : Vec Note Global) → b ≢ n → notes_by (write told n x) b ≡ notes_by told b
notes-other [] n b x other = refl
notes-other (y ∷ told) zero zero x other = absurd (other refl)
notes-other (y ∷ told) zero (suc b) x other = refl
notes-other (y ∷ told) (suc n) zero x other = refl
notes-other (y ∷ told) (suc n) (suc b) x other = notes-other told n b x (λ e. other (ap suc e))

pub notes-at : (told : List (Vec Note Global)) (b : ℕ) (x d : Vec Note Global) → b < length told → x ≡ get_or told b d → x.items ≡ notes_by told b
notes-at [] b x d l is = absurd (omega (arith, l))
notes-at (y ∷ told) zero x d l is = ap (λ (v : Vec Note Global). v.items) is
notes-at (y ∷ told) (suc b) x d l is = notes-at told b x d (omega (arith, l)) is

-- the notes of one block more
pub notes-next : (net : Setup) (tells : ℕ → ℕ → Option ℕ) (first n : ℕ) (told : List (Vec Note Global)) (x : Vec Note Global) → n < length told → AreNotesBy net tells (first + n) x.items
    → ((b : ℕ) → b < n → AreNotesBy net tells (first + b) (notes_by told b)) → (b : ℕ) → b < n + 1 → AreNotesBy net tells (first + b) (notes_by (write told n x) b)
notes-next net tells first n told x inside here before b l = elim (cases_eq b n) [
  | inl same ↦
      subst (λ k. AreNotesBy net tells (first + k) (notes_by (write told n x) k)) (sym same)
      (subst (AreNotesBy net tells (first + n)) (sym (notes-here told n x inside)) here)
  | inr other ↦ subst (AreNotesBy net tells (first + b)) (sym (notes-other told n b x other)) (before b (omega (arith, l, other)))
]

-- the room of a list that is written
pub room-next : (count n : ℕ) (told : List (Vec Note Global)) (x : Vec Note Global) → n < length told → 4096 ≤ vec_capacity x → HaveRoom count told → HaveRoom count (write told n x)
room-next count n told x inside room are = record {
  many = length-set told n x ∙ are.many;
  each = λ b d l. elim (cases_eq b n) [
    | inl same ↦ subst (λ (v : Vec Note Global). 4096 ≤ vec_capacity v) (sym (ap (λ m. get_or (write told n x) m d) same ∙ get_or-set_same told n x d inside)) room
    | inr other ↦ subst (λ (v : Vec Note Global). 4096 ≤ vec_capacity v) (sym (get_or-set_other told n b x d other)) (are.each b d l)
  ];
}

module _ (net : Setup) (plan : Plan) (good : IsGoodSetup net) (is : IsPlanOf net plan) where
  abbrev all : RouterPorts
  all = plan.pattern.table.ports

  abbrev g : Grid
  g = net.relation.grid

  -- ---- tables
  module _ (b : ℕ) (one : Around) (at : slice_get plan.around.items b ≡ Some one) where
    tables : IsAround g net.relation.vcs b one
    tables = is.around b one at

    pub wired : IsWired g plan.pattern one
    wired = record {
      sound = good.relation.table.grid;
      ports = is.pattern_is.width;
      block = subst (λ n. 64 * n < nodes g) (sym tables.block) (is.some b (slice_get_within plan.around.items b one at));
      tables = subst (λ v. IsAround g v one.block one) (sym is.pattern_is.vcs_are) (subst (λ n. IsAround g net.relation.vcs n one) (sym tables.block) tables);
    }

    -- ---- what is told
    module _ (block : Block) (tells : ℕ → ℕ → Option ℕ)
        (tell : (r : ℕ) → r < 64 → Tells g net.relation.vcs (64 * b + r) (set_of (channels_of all) r block.grants.granted) (port_in all block r) (vc_in all block r) (packet_in block.packets r) (tells (64 * b + r))) where
      pub are-told : AreTold g plan.pattern one block tells
      are-told = record {
        wired = wired;
        each = λ r low.
            subst (λ n. Tells g all.links.vcs (64 * n + r) (set_of (channels_of all) r block.grants.granted) (port_in all block r) (vc_in all block r) (packet_in block.packets r) (tells (64 * n + r))) (sym tables.block)
            (subst (λ v. Tells g v (64 * b + r) (set_of (channels_of all) r block.grants.granted) (port_in all block r) (vc_in all block r) (packet_in block.packets r) (tells (64 * b + r))) (sym is.pattern_is.vcs_are) (tell r low));
      }

    pub are-notes : (tells : ℕ → ℕ → Option ℕ) (notes : List Note) → AreNotes g all.links.vcs (told_by one.block tells) notes → length notes ≤ 4096 → AreNotesBy net tells b notes
    are-notes tells notes noted few = record {
      are = subst (λ n. AreNotes g net.relation.vcs (told_by n tells) notes) tables.block (subst (λ v. AreNotes g v (told_by one.block tells) notes) is.pattern_is.vcs_are noted);
      few = few;
    }

    -- ---- what comes
    module _ (left : List (Links (List ℕ))) (came : Links (List ℕ))
        (some : (leaves : ℕ → Left) (r : ℕ) → IsWired g plan.pattern one → ShowAllLeft g all left leaves → r / 64 ≡ one.block → r < nodes g → links_at all came (r % 64) ≡ brought g all.links.vcs leaves r)
        (none : (r : ℕ) → IsWired g plan.pattern one → r / 64 ≡ one.block → nodes g ≤ r → links_at all came (r % 64) ≡ record { flits = 0; tails = 0; credits = 0 }) where
      pub has-gathered : (r : ℕ) → r < 64 → links_at all came r ≡ coming net all left (64 * b + r)
      has-gathered r l = ap (links_at all came) (sym (place-of b r l)) ∙ comes (cases_lt (64 * b + r) (nodes g))
        where
          here : (64 * b + r) / 64 ≡ one.block
          here = block-of b r l ∙ sym tables.block

          comes : (64 * b + r < nodes g) ⊎ (nodes g ≤ 64 * b + r) → links_at all came ((64 * b + r) % 64) ≡ coming net all left (64 * b + r)
          comes (inl known) =
              some (left_of all left) (64 * b + r) wired (λ s m. record { flits = λ o k. refl; tails = λ o k. refl; credits = λ o k. refl }) here known
              ∙ ap (λ v. brought g v (left_of all left) (64 * b + r)) is.pattern_is.vcs_are
              ∙ sym (ap (λ x. if x then brought g net.relation.vcs (left_of all left) (64 * b + r) else record { flits = 0; tails = 0; credits = 0 }) (lt-ltb (64 * b + r) (nodes g) known))
          comes (inr absent) =
              none (64 * b + r) wired here absent
              ∙ sym (ap (λ x. if x then brought g net.relation.vcs (left_of all left) (64 * b + r) else record { flits = 0; tails = 0; credits = 0 }) (le-ltb (64 * b + r) (nodes g) absent))
