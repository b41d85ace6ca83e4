-- The meaning of a request.
use Rattle.std.specs.Char.{is_ascii_digit, to_ascii_lowercase}
use Rattle.std.specs.List.{find, list_all}
use Rattle.std.specs.Prelude.{[], ◌&&◌, ◌<◌, ◌==◌, ◌^◌, ◌||◌, ◌∷◌, ◌≡◌, ◌≢◌, ◌≤◌, Bool, codes, drop, false, filter}
use Rattle.std.specs.Prelude.{if◌then◌else◌, length, List, map, None, Option, position, Some, take, true, ℕ, ⊤}
use Rattle.std.specs.Str.{bytes_eq}
use Rattle.std.specs.Str.Parse.{digits_value, IsNumeral}
use Rattle.form_urlencoded.specs.Form.{raw_pairs, split_once}
use Rattle.httparse.specs.declared.spans.HeaderSpan.{HeaderSpan}
use Rattle.httparse.specs.Grammar.{MayBecomeRequest, ReadsRequest, RequestHead}
use Rattle.httparse.specs.Spans.{name_and_value, span_bytes}
use Rattle.serve_page.specs.declared.request.Asked.{Asked}
use Rattle.serve_page.specs.declared.request.Asked.TheVariants as asked
use Rattle.serve_page.specs.declared.request.Hosts.{Hosts}
use Rattle.serve_page.specs.declared.request.Hosts.TheVariants as hosts
use Rattle.serve_page.specs.declared.request.Refusal.TheVariants as refusal

-- a field of this name names a host
abbrev pub names_host : List ℕ → Bool
names_host name = bytes_eq (map to_ascii_lowercase name) (map to_ascii_lowercase (codes "host"))

-- of fields by name and value, those that name a host
abbrev pub hosts_of : List (List ℕ × List ℕ) → List (List ℕ × List ℕ)
hosts_of fields = filter (λ f. names_host f.0) fields

-- nothing, or a colon and a port
abbrev pub is_port_part : List ℕ → Bool
is_port_part [] = true
is_port_part (b ∷ bytes) = b == 58

-- a host has this name, with a port or without
abbrev pub has_name : List ℕ → List ℕ → Bool
has_name name host = bytes_eq (take (length name) host) name && is_port_part (drop (length name) host)

-- the bytes before a place; without one, all of them
abbrev pub host_before : List ℕ → Option ℕ → List ℕ
host_before rest (Some i) = take i rest
host_before rest None = rest

-- the first colon
abbrev pub colon_in : List ℕ → Option ℕ
colon_in bytes = position (λ b. b == 58) bytes

-- the bytes before it
abbrev pub before_colon : List ℕ → List ℕ
before_colon host = host_before host (colon_in host)

abbrev pub is_digit_or_dot : ℕ → Bool
is_digit_or_dot b = is_ascii_digit b || b == 46

abbrev pub is_dotted : List ℕ → Bool
is_dotted text = list_all is_digit_or_dot text

-- The form of an address: of IPv6 it begins with a bracket, and of IPv4 it is digits and dots before a port. The name
-- of a host has neither form. No more of the host is looked at.
abbrev pub is_address : List ℕ → Bool
is_address [] = false
is_address (b ∷ rest) = b == 91 || is_ascii_digit b && is_dotted (before_colon (b ∷ rest))

-- a host means the one that is asked: it is `localhost`, or has the form of an address
abbrev pub is_here : List ℕ → Bool
is_here host = has_name (codes "localhost") host || is_address host

-- a method that only reads
abbrev pub is_reading : List ℕ → Bool
is_reading method = bytes_eq method (codes "GET") || bytes_eq method (codes "HEAD")

-- the first slash
abbrev pub slash_in : List ℕ → Option ℕ
slash_in bytes = position (λ b. b == 47) bytes

-- the bytes from that slash on; without one, the address of the page
abbrev pub address_from : List ℕ → Option ℕ → List ℕ
address_from rest (Some i) = drop i rest
address_from rest None = codes "/"

-- a target in absolute form, as "http://localhost:8080/now"
abbrev pub is_absolute : List ℕ → Bool
is_absolute target = bytes_eq (take 7 target) (codes "http://")

-- a target names no host, or this one
abbrev pub is_ours : List ℕ → Bool
is_ours target =
    if is_absolute target then is_here (host_before (drop 7 target) (slash_in (drop 7 target))) else true

-- a host is this one, and the target names no other
abbrev pub is_for_us : List ℕ → List ℕ → Bool
is_for_us host target = is_here host && is_ours target

-- the address in a target
abbrev pub address_in : List ℕ → List ℕ
address_in target = if is_absolute target then address_from (drop 7 target) (slash_in (drop 7 target)) else target

-- the path of an address, and its query after the first question mark
abbrev pub path_of : List ℕ → List ℕ
path_of address = (split_once 63 address).0

abbrev pub query_of : List ℕ → List ℕ
query_of address = (split_once 63 address).1

-- a text in decimal digits without a sign, of a number below 2^64
abbrev pub IsDecimal : List ℕ → Type 0
IsDecimal text = IsNumeral 10 text × (digits_value 10 text < 2 ^ 64)

-- the number of a text, if it has one
abbrev pub IsNumber : List ℕ → Option ℕ → Type 0
IsNumber text (Some n) = IsDecimal text × (n ≡ digits_value 10 text)
IsNumber text None = IsDecimal text → ⊥

-- a parameter has the name `since`
abbrev pub names_since : List ℕ × List ℕ → Bool
names_since p = bytes_eq p.0 (codes "since")

-- The number of the first parameter with the name `since`. There is none without such a parameter, or if its value is
-- no number.
abbrev pub IsSinceOf : Option (List ℕ × List ℕ) → Option ℕ → Type 0
IsSinceOf (Some p) since = IsNumber p.1 since
IsSinceOf None since = since ≡ None

abbrev pub IsSince : List ℕ → Option ℕ → Type 0
IsSince query since = IsSinceOf (find names_since (raw_pairs query)) since

-- The meaning of an address. Five paths are known, and only that of the current state reads the query.
abbrev pub IsAskedAt : List ℕ → Asked → Type 0
IsAskedAt address asked.Page = path_of address ≡ codes "/"
IsAskedAt address asked.Line = path_of address ≡ codes "/line.json"
IsAskedAt address (asked.Now since) = (path_of address ≡ codes "/now") × IsSince (query_of address) since
IsAskedAt address asked.Health = path_of address ≡ codes "/health"
IsAskedAt address asked.Metrics = path_of address ≡ codes "/metrics"
IsAskedAt address (asked.Refused refusal.Address) =
    (path_of address ≢ codes "/") × (path_of address ≢ codes "/line.json") × (path_of address ≢ codes "/now")
    × (path_of address ≢ codes "/health") × (path_of address ≢ codes "/metrics")
IsAskedAt address other = ⊥

-- the fields of a head that name a host
abbrev pub hosts_in : RequestHead → List (List ℕ × List ℕ)
hosts_in h = hosts_of (map name_and_value h.fields)

-- exactly one field names a host; whether that host, and the one in the target, are this one
abbrev pub HasHost : RequestHead → Bool → Type 0
HasHost h is_right = (host : List ℕ × List ℕ) × (hosts_in h ≡ host ∷ []) × (is_for_us host.1 h.target ≡ is_right)

-- the meaning of a complete head: the host is checked before the method, and the method before the target
abbrev pub IsAskedBy : RequestHead → Asked → Type 0
IsAskedBy h (asked.Refused refusal.Form) = length (hosts_in h) ≢ 1
IsAskedBy h (asked.Refused refusal.Host) = HasHost h false
IsAskedBy h (asked.Refused refusal.Method) = HasHost h true × (is_reading h.method ≡ false)
IsAskedBy h other = HasHost h true × (is_reading h.method ≡ true) × IsAskedAt (address_in h.target) other

-- More bytes are awaited only if they may still become a head, and are fewer than 8192. Any other result but a refusal
-- needs a complete head that asks for it.
abbrev pub IsAsked : List ℕ → Asked → Type 0
IsAsked bytes asked.More = MayBecomeRequest bytes × (length bytes < 8192)
IsAsked bytes (asked.Refused why) = ⊤
IsAsked bytes other = (h : RequestHead) × (rest : List ℕ) × ReadsRequest bytes h rest × IsAskedBy h other

-- the fields that name a host, by their spans in the bytes
abbrev pub named_in : List ℕ → List HeaderSpan → List HeaderSpan
named_in bytes fields = filter (λ f. names_host (span_bytes bytes f.name)) fields

-- these fields are none, this one, or several
abbrev pub AreHosts : List HeaderSpan → Hosts → Type 0
AreHosts fields hosts.Nothing = fields ≡ []
AreHosts fields (hosts.One field) = fields ≡ field ∷ []
AreHosts fields hosts.Several = 2 ≤ length fields

-- the fields of the head that name a host are none, the one at these spans, or several
abbrev pub AreHostsOf : List ℕ → RequestHead → Hosts → Type 0
AreHostsOf bytes h hosts.Nothing = hosts_in h ≡ []
AreHostsOf bytes h (hosts.One field) = hosts_in h ≡ (span_bytes bytes field.name, span_bytes bytes field.value) ∷ []
AreHostsOf bytes h hosts.Several = 2 ≤ length (hosts_in h)
