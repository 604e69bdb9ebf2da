-- What a configuration says.
use Rattle.std.specs.Prelude.{◌≡◌, ◌⊎◌, ◌++◌, ℕ, ◌≤◌, ℤ, pos, negsuc, Bool, true, List, [], ◌∷◌, codes, Option, Some, None, Result, Ok, Err, nat_le, ◌&&◌, ◌||◌, if◌then◌else◌, option_map, option_and_then, is_some}
use Rattle.std.specs.Option.{ok_or}
use Rattle.std.specs.Str.{IsUtf8, bytes_eq, is_utf8}
use Rattle.toml.specs.Data.{Data, Items, no_items, item, Members, no_members, member, as_array, as_integer, as_str, array, get_member, integer, string}
use Rattle.toml.specs.Parse.{parse_document}
use Rattle.noc_bytes.specs.declared.input_fault.InputFault.{InputFault}
use Rattle.noc_bytes.specs.declared.input_fault.InputFault.TheVariants.{BadToml, BadValue, MissingKey, UnknownKey, WrongType}
use Rattle.noc_bytes.specs.declared.input_fault.Key.{Key}
use Rattle.noc_bytes.specs.declared.input_fault.Key.TheVariants as key
use Rattle.noc_files.specs.declared.configuration.Config.{Config}
use Rattle.noc_topo.specs.declared.shape.Kind.{Kind}
use Rattle.noc_topo.specs.declared.shape.Kind.TheVariants.{Mesh, Torus}
use Rattle.noc_route.specs.Names.{rule_of, rule_name}
use Rattle.noc_route.specs.declared.rule.RuleName.{RuleName}
use Rattle.noc_files.specs.declared.configuration.TheConstants.{MAX_CYCLES}
use Rattle.noc_files.specs.Gives.{◌>>=◌}
use Rattle.noc_bytes.specs.Keys.{key_name}
use Rattle.noc_topo.specs.Lists.{Each}
use Rattle.noc_packet.specs.declared.limits.TheConstants.{MAX_BUFFER, MAX_CHANNELS, MAX_CLASSES}

-- a configuration without where its radix lies in memory
pub record Settings : Type 0 where
  pub kind : Kind
  pub radix : List ℕ
  pub channels : ℕ
  pub buffer : ℕ
  pub classes : ℕ
  pub rule : RuleName
  pub cycles : ℕ

abbrev pub settings : Config → Settings
settings c = record {
  kind = c.kind;
  radix = c.radix.items;
  channels = c.channels;
  buffer = c.buffer;
  classes = c.classes;
  rule = c.rule;
  cycles = c.cycles;
}

-- whether a text is a key of a configuration
abbrev pub is_key : List ℕ → Bool
is_key k =
    bytes_eq k (codes "kind") || bytes_eq k (codes "radix") || bytes_eq k (codes "channels")
    || bytes_eq k (codes "buffer")
    || bytes_eq k (codes "classes") || bytes_eq k (codes "rule") || bytes_eq k (codes "cycles")

-- each key is one of a configuration
abbrev pub all_known : Members → Bool
all_known no_members = true
all_known (member k d ms) = is_key k && all_known ms

-- the table that a text is
abbrev pub document_of : List ℕ → Result Members InputFault
document_of text = if is_utf8 text then ok_or (parse_document text) BadToml else Err BadToml

-- the value at a key, of the type that `as` reads
abbrev pub typed_at : {X : Type 0} → (Data → Option X) → Key → Members → Result X InputFault
typed_at as_type k ms =
    ok_or (get_member (key_name k) ms) (MissingKey k) >>= λ d. ok_or (as_type d) (WrongType k)

abbrev pub string_at : Key → Members → Result (List ℕ) InputFault
string_at = typed_at as_str

-- an integer from low to high
abbrev pub within : ℕ → ℕ → ℤ → Option ℕ
within low high (pos n) = if nat_le low n && nat_le n high then Some n else None
within low high (negsuc n) = None

abbrev pub integer_in : Key → ℕ → ℕ → Members → Result ℕ InputFault
integer_in k low high ms = typed_at as_integer k ms >>= λ z. ok_or (within low high z) (BadValue k)

abbrev pub kind_of : List ℕ → Option Kind
kind_of w =
    if bytes_eq w (codes "mesh") then Some Mesh else if bytes_eq w (codes "torus") then Some Torus
    else None

unfoldable pub kind_at : Members → Result Kind InputFault
kind_at ms = string_at key.Kind ms >>= λ w. ok_or (kind_of w) (BadValue key.Kind)

unfoldable pub rule_setting : Members → Result RuleName InputFault
rule_setting ms = string_at key.Rule ms >>= λ w. ok_or (rule_of w) (BadValue key.Rule)

abbrev pub all_integers : Items → Bool
all_integers no_items = true
all_integers (item d ds) = is_some (as_integer d) && all_integers ds

-- each integer from 0 to 1000
abbrev pub lengths_of : Items → Option (List ℕ)
lengths_of no_items = Some []
lengths_of (item d ds) =
    option_and_then
    (λ z. option_and_then (λ n. option_map (λ ns. n ∷ ns) (lengths_of ds)) (within 0 1000 z))
    (as_integer d)

unfoldable pub radix_at : Members → Result (List ℕ) InputFault
radix_at ms =
    typed_at as_array key.Radix ms >>= λ ds. if all_integers ds
    then ok_or (lengths_of ds) (BadValue key.Radix) else Err (WrongType key.Radix)

-- key by key
unfoldable pub config_at : Members → Result Settings InputFault
config_at ms = do
  kind ← kind_at ms
  radix ← radix_at ms
  channels ← integer_in key.Channels 1 MAX_CHANNELS ms
  buffer ← integer_in key.Buffer 1 MAX_BUFFER ms
  classes ← integer_in key.Classes 1 MAX_CLASSES ms
  rule ← rule_setting ms
  cycles ← integer_in key.Cycles 1 MAX_CYCLES ms
  Ok (record {
    kind = kind;
    radix = radix;
    channels = channels;
    buffer = buffer;
    classes = classes;
    rule = rule;
    cycles = cycles;
  })

-- numbers that a network and its run may have
pub record KeepsLimits (c : Config) : Type 0 where
  pub some_channels : 1 ≤ c.channels
  pub few_channels : c.channels ≤ MAX_CHANNELS
  pub some_buffer : 1 ≤ c.buffer
  pub few_buffer : c.buffer ≤ MAX_BUFFER
  pub some_classes : 1 ≤ c.classes
  pub few_classes : c.classes ≤ MAX_CLASSES
  pub some_cycles : 1 ≤ c.cycles
  pub few_cycles : c.cycles ≤ MAX_CYCLES

-- a document, then its keys, then key by key
abbrev pub config_of : List ℕ → Result Settings InputFault
config_of text = document_of text >>= λ ms. if all_known ms then config_at ms else Err UnknownKey

-- ---- the same in the terms of the format

abbrev pub kind_name : Kind → List ℕ
kind_name Mesh = codes "mesh"
kind_name Torus = codes "torus"

-- these as the integers of an array
abbrev pub integers : List ℕ → Items
integers [] = no_items
integers (n ∷ ns) = item (integer (pos n)) (integers ns)

-- each key is the text of a key of a configuration
abbrev pub HasKnownKeys : Members → Type 0
HasKnownKeys no_members = Unit {0}
HasKnownKeys (member text d ms) = ((k : Key) × (text ≡ key_name k)) × HasKnownKeys ms

-- the value of a key
abbrev pub HasValue : Members → Key → Data → Type 0
HasValue ms k d = get_member (key_name k) ms ≡ Some d

-- the integer of a key, and its limits
pub record HasInteger (ms : Members) (k : Key) (low high n : ℕ) : Type 0 where
  pub value : HasValue ms k (integer (pos n))
  pub least : low ≤ n
  pub most : n ≤ high

-- a document in UTF-8 that has just the keys of a configuration, with these
-- settings as their values
pub record IsConfiguration (text : List ℕ) (s : Settings) : Type 0 where
  pub document : Members
  pub utf8 : IsUtf8 text
  pub parsed : parse_document text ≡ Some document
  pub known : HasKnownKeys document
  pub kind : HasValue document key.Kind (string (kind_name s.kind))
  pub radix : HasValue document key.Radix (array (integers s.radix))
  pub radices : Each (λ k. k ≤ 1000) s.radix
  pub channels : HasInteger document key.Channels 1 MAX_CHANNELS s.channels
  pub buffer : HasInteger document key.Buffer 1 MAX_BUFFER s.buffer
  pub classes : HasInteger document key.Classes 1 MAX_CLASSES s.classes
  pub rule : HasValue document key.Rule (string (rule_name s.rule))
  pub cycles : HasInteger document key.Cycles 1 MAX_CYCLES s.cycles

-- ---- what is wrong with a configuration

-- the keys in the order in which they are looked at
abbrev pub keys_in_order : List Key
keys_in_order =
    key.Kind ∷ key.Radix ∷ key.Channels ∷ key.Buffer ∷ key.Classes ∷ key.Rule ∷ key.Cycles ∷ []

abbrev pub AreIntegers : Items → Type 0
AreIntegers no_items = Unit {0}
AreIntegers (item d ds) = ((z : ℤ) × (d ≡ integer z)) × AreIntegers ds

-- a value of the type of a key
abbrev pub IsOfType : Key → Data → Type 0
IsOfType key.Kind d = (w : List ℕ) × (d ≡ string w)
IsOfType key.Radix d = (ds : Items) × (d ≡ array ds) × AreIntegers ds
IsOfType key.Channels d = (z : ℤ) × (d ≡ integer z)
IsOfType key.Buffer d = (z : ℤ) × (d ≡ integer z)
IsOfType key.Classes d = (z : ℤ) × (d ≡ integer z)
IsOfType key.Rule d = (w : List ℕ) × (d ≡ string w)
IsOfType key.Cycles d = (z : ℤ) × (d ≡ integer z)

-- an integer within limits
abbrev pub IsIntegerIn : ℕ → ℕ → Data → Type 0
IsIntegerIn low high d = (n : ℕ) × (d ≡ integer (pos n)) × (low ≤ n) × (n ≤ high)

-- a value that a key may have
abbrev pub IsAllowed : Key → Data → Type 0
IsAllowed key.Kind d = (k : Kind) × (d ≡ string (kind_name k))
IsAllowed key.Radix d = (ns : List ℕ) × (d ≡ array (integers ns)) × Each (λ n. n ≤ 1000) ns
IsAllowed key.Channels d = IsIntegerIn 1 MAX_CHANNELS d
IsAllowed key.Buffer d = IsIntegerIn 1 MAX_BUFFER d
IsAllowed key.Classes d = IsIntegerIn 1 MAX_CLASSES d
IsAllowed key.Rule d = (r : RuleName) × (d ≡ string (rule_name r))
IsAllowed key.Cycles d = IsIntegerIn 1 MAX_CYCLES d

-- a key that has a value that it may have
abbrev pub HasAllowed : Members → Key → Type 0
HasAllowed ms k = (d : Data) × HasValue ms k d × IsAllowed k d

pub record LacksKey (ms : Members) (k : Key) (fault : InputFault) : Type 0 where
  pub lacks : get_member (key_name k) ms ≡ None
  pub fault_is : fault ≡ MissingKey k

pub record HasOtherType (ms : Members) (k : Key) (fault : InputFault) : Type 0 where
  pub value : Data
  pub there : HasValue ms k value
  pub other_type : IsOfType k value → ⊥
  pub fault_is : fault ≡ WrongType k

pub record HasBadValue (ms : Members) (k : Key) (fault : InputFault) : Type 0 where
  pub value : Data
  pub there : HasValue ms k value
  pub of_type : IsOfType k value
  pub not_allowed : IsAllowed k value → ⊥
  pub fault_is : fault ≡ BadValue k

-- the fault of a key: it is not there, its value has another type, or it is
-- none that the key may have
abbrev pub IsKeyFault : Members → Key → InputFault → Type 0
IsKeyFault ms k fault = LacksKey ms k fault ⊎ (HasOtherType ms k fault ⊎ HasBadValue ms k fault)

-- the first key with a fault
pub record HasBadKey (ms : Members) (fault : InputFault) : Type 0 where
  pub before : List Key
  pub bad : Key
  pub others : List Key
  pub in_order : keys_in_order ≡ before ++ bad ∷ others
  pub good : Each (HasAllowed ms) before
  pub fault_is : IsKeyFault ms bad fault

-- a document in UTF-8
pub record IsDocument (text : List ℕ) (ms : Members) : Type 0 where
  pub utf8 : IsUtf8 text
  pub parsed : parse_document text ≡ Some ms

pub record IsNoDocument (text : List ℕ) (fault : InputFault) : Type 0 where
  pub none : (ms : Members) → IsDocument text ms → ⊥
  pub fault_is : fault ≡ BadToml

pub record HasUnknownKey (text : List ℕ) (fault : InputFault) : Type 0 where
  pub members : Members
  pub document : IsDocument text members
  pub unknown : HasKnownKeys members → ⊥
  pub fault_is : fault ≡ UnknownKey

pub record HasFaultyKey (text : List ℕ) (fault : InputFault) : Type 0 where
  pub members : Members
  pub document : IsDocument text members
  pub known : HasKnownKeys members
  pub bad : HasBadKey members fault

-- the first fault of a configuration: no document, a key that no configuration has, or
-- the first key with a fault
abbrev pub IsConfigurationFault : List ℕ → InputFault → Type 0
IsConfigurationFault text fault =
    IsNoDocument text fault ⊎ (HasUnknownKey text fault ⊎ HasFaultyKey text fault)
