-- A configuration is read just where it is a document with its keys and their values.
use Rattle.std.proofs.Common.{◌≡◌, ℕ, ◌≤◌, ℤ, pos, negsuc, ◌&&◌, ◌||◌, ◌⊎◌, inl, inr, Bool, true, false, List, [], ◌∷◌, Option, Some, None, Result, Ok, Err, codes, refl, sym, ap, ◌∙◌, arith, cond, le-leb}
use Rattle.std.specs.Prelude.{nat_le}
use Rattle.std.proofs.lemmas.Bool.{leb-true}
use Rattle.std.proofs.lemmas.Option.{cond_some, none-some, same_Some}
use Rattle.std.proofs.lemmas.Str.{IsUtf8-from_is_utf8, is_utf8-from_IsUtf8}
use Rattle.std.specs.Cmp.Lexicographic.{same_text}
use Rattle.std.specs.Option.{ok_or}
use Rattle.std.specs.Str.{IsUtf8, bytes_eq, is_utf8}
use Rattle.toml.specs.Data.{Data, Items, no_items, item, Members, no_members, member, as_array, as_integer, as_str, array, get_member, integer, string}
use Rattle.toml.specs.Parse.{parse_document}
use Rattle.noc_topo.specs.Lists.{Each}
use Rattle.noc_topo.specs.declared.shape.Kind.{Kind}
use Rattle.noc_topo.specs.declared.shape.Kind.TheVariants.{Mesh, Torus}
use Rattle.noc_route.specs.Names.{rule_of, rule_name}
use Rattle.noc_route.specs.declared.rule.RuleName.{RuleName}
use Rattle.noc_route.proofs.NameLemmas.{name-of_rule, rule-of_name}
use Rattle.noc_bytes.specs.declared.input_fault.InputFault.{InputFault}
use Rattle.noc_bytes.specs.declared.input_fault.InputFault.TheVariants.{BadToml, BadValue, MissingKey, UnknownKey, WrongType}
use Rattle.noc_bytes.specs.declared.input_fault.Key.{Key}
use Rattle.noc_bytes.specs.declared.input_fault.Key.TheVariants as key
use Rattle.noc_files.specs.Configuration.{HasKnownKeys, HasInteger, HasValue, IsConfiguration, Settings, all_integers, all_known, config_at, config_of, document_of, integers, is_key, kind_at, kind_of, kind_name, lengths_of, integer_in, radix_at, rule_setting, typed_at, within}
use Rattle.noc_files.specs.declared.configuration.TheConstants.{MAX_CYCLES}
use Rattle.noc_packet.specs.declared.limits.TheConstants.{MAX_BUFFER, MAX_CHANNELS, MAX_CLASSES}
use Rattle.noc_bytes.specs.Keys.{key_name}
use Rattle.noc_files.proofs.SheetLemmas.{bind_ok, both}
use Rattle.noc_files.proofs.TrafficLemmas.{found_in}

-- ---- values of a type

pub string_is : (d : Data) (w : List ℕ) → as_str d ≡ Some w → d ≡ string w
string_is (string s) w e = cc
string_is _ w e = absurd (cc)

pub integer_is : (d : Data) (z : ℤ) → as_integer d ≡ Some z → d ≡ integer z
integer_is (integer y) z e = cc
integer_is _ z e = absurd (cc)

pub array_is : (d : Data) (ds : Items) → as_array d ≡ Some ds → d ≡ array ds
array_is (array es) ds e = cc
array_is _ ds e = absurd (cc)

pub typed_is : {X : Type 0} (as_type : Data → Option X) (of_type : X → Data) (back : (d : Data) (x : X) → as_type d ≡ Some x → d ≡ of_type x) (k : Key) (ms : Members) (x : X)
    → typed_at as_type k ms ≡ Ok x → HasValue ms k (of_type x)
typed_is as_type of_type back k ms x e =
    let first = bind_ok (ok_or (get_member (key_name k) ms) (MissingKey k)) (λ d. ok_or (as_type d) (WrongType k)) x e in
    let there = found_in (get_member (key_name k) ms) (MissingKey k) first.0 first.1 in
    let typed = found_in (as_type first.0) (WrongType k) x first.2 in
    rw (← back first.0 x typed) there

-- ---- strings

kind_is : (w : List ℕ) (k : Kind) → kind_of w ≡ Some k → w ≡ kind_name k
kind_is w k e = by (bytes_eq w (codes "mesh")) refl (bytes_eq w (codes "torus")) refl
  where
    by : (a : Bool) → bytes_eq w (codes "mesh") ≡ a → (b : Bool) → bytes_eq w (codes "torus") ≡ b → w ≡ kind_name k
    by true is b other = let one : Some Mesh ≡ Some k = rw is at e in rw (← same_Some Mesh k one) (same_text w (codes "mesh") (sym is))
    by false not_so true is = let one : Some Torus ≡ Some k = rw (not_so, is) at e in rw (← same_Some Torus k one) (same_text w (codes "torus") (sym is))
    by false not_so false none = let one : None ≡ Some k = rw (not_so, none) at e in absurd (none-some k one)

pub is_kind : (k : Kind) → kind_of (kind_name k) ≡ Some k
is_kind Mesh = refl
is_kind Torus = refl

-- ---- integers

within_is : (low high : ℕ) (z : ℤ) (n : ℕ) → within low high z ≡ Some n → (z ≡ pos n) × (low ≤ n) × (n ≤ high)
within_is low high (negsuc m) n e = absurd (cc)
within_is low high (pos m) n e =
    let test = cond_some (nat_le low m && nat_le m high) m n e in
    let limits = both (nat_le low m) (nat_le m high) test.0 in
    (ap pos test.1, rw (← test.1) (leb-true low m limits.0), rw (← test.1) (leb-true m high limits.1))

pub is_within : (low high n : ℕ) → low ≤ n → n ≤ high → within low high (pos n) ≡ Some n
is_within low high n least most = rw (le-leb low n least, le-leb n high most)

pub integer_found : (ms : Members) (k : Key) (low high n : ℕ) → integer_in k low high ms ≡ Ok n → HasInteger ms k low high n
integer_found ms k low high n e =
    let first = bind_ok (typed_at as_integer k ms) (λ z. ok_or (within low high z) (BadValue k)) n e in
    let limits = within_is low high first.0 n (found_in (within low high first.0) (BadValue k) n first.2) in
    record {
      value = rw (← limits.0) (typed_is as_integer integer integer_is k ms first.0 first.1);
      least = limits.1;
      most = limits.2;
    }

found_integer : (ms : Members) (k : Key) (low high n : ℕ) → HasInteger ms k low high n → integer_in k low high ms ≡ Ok n
found_integer ms k low high n h = rw h.value (rw (is_within low high n h.least h.most))

-- ---- the radix

one_more : (d : Data) (ds : Items) (ns : List ℕ) (z : ℤ) → as_integer d ≡ Some z → (m : Option ℕ) → within 0 1000 z ≡ m → (rest : Option (List ℕ)) → lengths_of ds ≡ rest
    → ((others : List ℕ) → lengths_of ds ≡ Some others → (ds ≡ integers others) × Each (λ k. k ≤ 1000) others) → lengths_of (item d ds) ≡ Some ns → (item d ds ≡ integers ns) × Each (λ k. k ≤ 1000) ns
one_more d ds ns z is None outside rest are more e = let one : None ≡ Some ns = rw (is, outside) at e in absurd (none-some ns one)
one_more d ds ns z is (Some n) inside None are more e = let one : None ≡ Some ns = rw (is, inside, are) at e in absurd (none-some ns one)
one_more d ds ns z is (Some n) inside (Some others) are more e =
    let one : Some (n ∷ others) ≡ Some ns = rw (is, inside, are) at e in
    let limits = within_is 0 1000 z n inside in
    let whole = more others are in
    let first : d ≡ integer (pos n) = integer_is d z is ∙ ap integer limits.0 in
    rw (← same_Some (n ∷ others) ns one) (rw first (ap (λ (t : Items). item (integer (pos n)) t) whole.0), (limits.2, whole.1))

lengths_are : (ds : Items) (ns : List ℕ) → lengths_of ds ≡ Some ns → (ds ≡ integers ns) × Each (λ k. k ≤ 1000) ns
lengths_are no_items ns e = let none : [] ≡ ns = same_Some [] ns e in rw (← none) (refl, tt)
lengths_are (item d ds) ns e = by (as_integer d) refl (λ others there. lengths_are ds others there)
  where
    by : (o : Option ℤ) → as_integer d ≡ o → ((others : List ℕ) → lengths_of ds ≡ Some others → (ds ≡ integers others) × Each (λ k. k ≤ 1000) others) → (item d ds ≡ integers ns) × Each (λ k. k ≤ 1000) ns
    by None other more = let one : None ≡ Some ns = rw other at e in absurd (none-some ns one)
    by (Some z) is more = one_more d ds ns z is (within 0 1000 z) refl (lengths_of ds) refl more e

pub are_lengths : (ns : List ℕ) → Each (λ k. k ≤ 1000) ns → (all_integers (integers ns) ≡ true) × (lengths_of (integers ns) ≡ Some ns)
are_lengths [] h = (refl, refl)
are_lengths (n ∷ ns) h = let rest = are_lengths ns h.1 in (rest.0, rw (is_within 0 1000 n (omega arith) h.0, rest.1))

chosen : (b : Bool) (r : Result (List ℕ) InputFault) (fault : InputFault) (ns : List ℕ) → cond b r (Err fault) ≡ Ok ns → r ≡ Ok ns
chosen true r fault ns e = e
chosen false r fault ns e = absurd (cc)

pub radix_is : (ms : Members) (ns : List ℕ) → radix_at ms ≡ Ok ns → HasValue ms key.Radix (array (integers ns)) × Each (λ k. k ≤ 1000) ns
unfolding radix_at
radix_is ms ns e =
    let first = bind_ok (typed_at as_array key.Radix ms) (λ ds. cond (all_integers ds) (ok_or (lengths_of ds) (BadValue key.Radix)) (Err (WrongType key.Radix))) ns e in
    let numbers = lengths_are first.0 ns (found_in (lengths_of first.0) (BadValue key.Radix) ns (chosen (all_integers first.0) (ok_or (lengths_of first.0) (BadValue key.Radix)) (WrongType key.Radix) ns first.2)) in
    (rw (← numbers.0) (typed_is as_array array array_is key.Radix ms first.0 first.1), numbers.1)

is_radix : (ms : Members) (ns : List ℕ) → HasValue ms key.Radix (array (integers ns)) → Each (λ k. k ≤ 1000) ns → radix_at ms ≡ Ok ns
unfolding radix_at
is_radix ms ns value small = let all = are_lengths ns small in rw value (rw (all.0, all.1))

-- ---- keys

either : (a b : Bool) → (a || b) ≡ true → (a ≡ true) ⊎ (b ≡ true)
either true b e = inl refl
either false b e = inr e

key_is : (text : List ℕ) → is_key text ≡ true → (k : Key) × (text ≡ key_name k)
key_is text e =
    elim (either _ (bytes_eq text (codes "cycles")) e) [
      | inr last ↦ (key.Cycles, same_text text (codes "cycles") (sym last))
      | inl e6 ↦ elim (either _ (bytes_eq text (codes "rule")) e6) [
        | inr last ↦ (key.Rule, same_text text (codes "rule") (sym last))
        | inl e5 ↦ elim (either _ (bytes_eq text (codes "classes")) e5) [
          | inr last ↦ (key.Classes, same_text text (codes "classes") (sym last))
          | inl e4 ↦ elim (either _ (bytes_eq text (codes "buffer")) e4) [
            | inr last ↦ (key.Buffer, same_text text (codes "buffer") (sym last))
            | inl e3 ↦ elim (either _ (bytes_eq text (codes "channels")) e3) [
              | inr last ↦ (key.Channels, same_text text (codes "channels") (sym last))
              | inl e2 ↦ elim (either _ (bytes_eq text (codes "radix")) e2) [
                | inr last ↦ (key.Radix, same_text text (codes "radix") (sym last))
                | inl first ↦ (key.Kind, same_text text (codes "kind") (sym first))
              ]
            ]
          ]
        ]
      ]
    ]

is_key_name : (k : Key) → is_key (key_name k) ≡ true
is_key_name key.Kind = refl
is_key_name key.Radix = refl
is_key_name key.Channels = refl
is_key_name key.Buffer = refl
is_key_name key.Classes = refl
is_key_name key.Rule = refl
is_key_name key.Cycles = refl

pub keys_are : (ms : Members) → all_known ms ≡ true → HasKnownKeys ms
keys_are no_members e = tt
keys_are (member text d ms) e = let each = both (is_key text) (all_known ms) e in (key_is text each.0, keys_are ms each.1)

pub are_keys : (ms : Members) → HasKnownKeys ms → all_known ms ≡ true
are_keys no_members h = refl
are_keys (member text d ms) h = rw (h.0.1, is_key_name h.0.0, are_keys ms h.1)

-- ---- the whole

pub kind_at_is : (ms : Members) (k : Kind) → kind_at ms ≡ Ok k → HasValue ms key.Kind (string (kind_name k))
unfolding kind_at
kind_at_is ms k e =
    let first = bind_ok (typed_at as_str key.Kind ms) (λ w. ok_or (kind_of w) (BadValue key.Kind)) k e in
    rw (← kind_is first.0 k (found_in (kind_of first.0) (BadValue key.Kind) k first.2)) (typed_is as_str string string_is key.Kind ms first.0 first.1)

is_kind_at : (ms : Members) (k : Kind) → HasValue ms key.Kind (string (kind_name k)) → kind_at ms ≡ Ok k
unfolding kind_at
is_kind_at ms k value = rw value (rw (is_kind k))

pub rule_at_is : (ms : Members) (r : RuleName) → rule_setting ms ≡ Ok r → HasValue ms key.Rule (string (rule_name r))
unfolding rule_setting
rule_at_is ms r e =
    let first = bind_ok (typed_at as_str key.Rule ms) (λ w. ok_or (rule_of w) (BadValue key.Rule)) r e in
    rw (← name-of_rule first.0 r (found_in (rule_of first.0) (BadValue key.Rule) r first.2)) (typed_is as_str string string_is key.Rule ms first.0 first.1)

is_rule_at : (ms : Members) (r : RuleName) → HasValue ms key.Rule (string (rule_name r)) → rule_setting ms ≡ Ok r
unfolding rule_setting
is_rule_at ms r value = rw value (rw (rule-of_name r))

pub document_is : (text : List ℕ) (ms : Members) → document_of text ≡ Ok ms → IsUtf8 text × (parse_document text ≡ Some ms)
document_is text ms e = by (is_utf8 text) refl
  where
    by : (b : Bool) → is_utf8 text ≡ b → IsUtf8 text × (parse_document text ≡ Some ms)
    by true utf8 = (IsUtf8-from_is_utf8 text utf8, found_in (parse_document text) BadToml ms (rw utf8 at e))
    by false other = let refused : document_of text ≡ Err BadToml = rw other in absurd (cc (refused, e))

settings_are : (text : List ℕ) (ms : Members) (s : Settings) → IsUtf8 text → parse_document text ≡ Some ms → HasKnownKeys ms → config_at ms ≡ Ok s → IsConfiguration text s
unfolding config_at
settings_are text ms s utf8 parsed known e =
    let kind = bind_ok (kind_at ms) _ s e in
    let radix = bind_ok (radix_at ms) _ s kind.2 in
    let channels = bind_ok (integer_in key.Channels 1 MAX_CHANNELS ms) _ s radix.2 in
    let buffer = bind_ok (integer_in key.Buffer 1 MAX_BUFFER ms) _ s channels.2 in
    let classes = bind_ok (integer_in key.Classes 1 MAX_CLASSES ms) _ s buffer.2 in
    let rule = bind_ok (rule_setting ms) _ s classes.2 in
    let cycles = bind_ok (integer_in key.Cycles 1 MAX_CYCLES ms) _ s rule.2 in
    let same : record { kind = kind.0; radix = radix.0; channels = channels.0; buffer = buffer.0; classes = classes.0; rule = rule.0; cycles = cycles.0 } ≡ s = cc in
    let sizes = radix_is ms radix.0 radix.1 in
    rw (← same) (record {
      document = ms;
      utf8 = utf8;
      parsed = parsed;
      known = known;
      kind = kind_at_is ms kind.0 kind.1;
      radix = sizes.0;
      radices = sizes.1;
      channels = integer_found ms key.Channels 1 MAX_CHANNELS channels.0 channels.1;
      buffer = integer_found ms key.Buffer 1 MAX_BUFFER buffer.0 buffer.1;
      classes = integer_found ms key.Classes 1 MAX_CLASSES classes.0 classes.1;
      rule = rule_at_is ms rule.0 rule.1;
      cycles = integer_found ms key.Cycles 1 MAX_CYCLES cycles.0 cycles.1;
    })

-- a text is read as these settings just where it is a configuration that has them
pub configuration_is : (text : List ℕ) (s : Settings) → config_of text ≡ Ok s → IsConfiguration text s
configuration_is text s e =
    let first = bind_ok (document_of text) (λ ms. cond (all_known ms) (config_at ms) (Err UnknownKey)) s e in
    let document = document_is text first.0 first.1 in
    by first.0 document.0 document.1 first.2 (all_known first.0) refl
  where
    by : (ms : Members) → IsUtf8 text → parse_document text ≡ Some ms → cond (all_known ms) (config_at ms) (Err UnknownKey) ≡ Ok s → (b : Bool) → all_known ms ≡ b → IsConfiguration text s
    by ms utf8 parsed said true known = settings_are text ms s utf8 parsed (keys_are ms known) (rw known at said)
    by ms utf8 parsed said false unknown = let refused : cond (all_known ms) (config_at ms) (Err UnknownKey) ≡ Err UnknownKey = rw unknown in absurd (cc (refused, said))

pub is_configuration : (text : List ℕ) (s : Settings) → IsConfiguration text s → config_of text ≡ Ok s
unfolding config_at
is_configuration text s h =
    let ms = h.document in
    rw (is_utf8-from_IsUtf8 text h.utf8, h.parsed, are_keys ms h.known)
    (rw (
      is_kind_at ms s.kind h.kind,
      is_radix ms s.radix h.radix h.radices,
      found_integer ms key.Channels 1 MAX_CHANNELS s.channels h.channels,
      found_integer ms key.Buffer 1 MAX_BUFFER s.buffer h.buffer,
      found_integer ms key.Classes 1 MAX_CLASSES s.classes h.classes,
      is_rule_at ms s.rule h.rule,
      found_integer ms key.Cycles 1 MAX_CYCLES s.cycles h.cycles,
    ))
