-- A capture for Wireshark: the form pcap, version 2.4, with IP packets as its records (LINKTYPE_RAW).
use Rattle.std.specs.Int.{to_be_bytes, to_le_bytes, w16, w32}
use Rattle.std.specs.Prelude.{[], ◌%◌, ◌*◌, ◌++◌, ◌+◌, ◌-◌, ◌∷◌, length, List, ℕ}
use denote.Ref.{Bor}
use Rattle.text_prints.specs.declared.segment.Segment.{Segment}

-- parts, put together
abbrev pub all_bytes : List (Bor (List ℕ)) → List ℕ
all_bytes [] = []
all_bytes (part ∷ parts) = part.now ++ all_bytes parts

abbrev pub joined : List (List ℕ) → List ℕ
joined [] = []
joined (part ∷ parts) = part ++ joined parts

-- numbers of two and four bytes: the Internet protocols have the highest byte first, a capture the lowest
abbrev pub two : ℕ → List ℕ
two n = to_be_bytes w16 n

abbrev pub four : ℕ → List ℕ
four n = to_be_bytes w32 n

abbrev pub low_two : ℕ → List ℕ
low_two n = to_le_bytes w16 n

abbrev pub low_four : ℕ → List ℕ
low_four n = to_le_bytes w32 n

-- the sum of bytes as words of 16 bits, with a zero byte after an odd number of bytes
abbrev pub sum_of : List ℕ → ℕ
sum_of [] = 0
sum_of (high ∷ []) = high * 256
sum_of (high ∷ low ∷ rest) = high * 256 + low + sum_of rest

-- the checksum of the Internet protocols: with it the sum is a multiple of 65 535 (RFC 1071)
abbrev pub checksum : List ℕ → ℕ
checksum bytes = (65535 - sum_of bytes % 65535) % 65535

-- ## A segment of TCP (RFC 9293) in a packet of IP (RFC 791)

-- its header has no options, and a window of 65 535 bytes
abbrev pub tcp_header : Segment → ℕ → List ℕ
tcp_header s sum = joined (
    two s.source.port ∷ two s.target.port ∷ four s.number ∷ four s.acknowledged ∷ (80 ∷ s.flags ∷ []) ∷ two 65535
    ∷ two sum ∷ two 0 ∷ [])

-- the pseudo header that its checksum covers: addresses, protocol 6, and length
abbrev pub pseudo_header : Segment → List ℕ
pseudo_header s =
    joined (four s.source.address ∷ four s.target.address ∷ (0 ∷ 6 ∷ []) ∷ two (20 + length s.data.now) ∷ [])

abbrev pub tcp_sum : Segment → ℕ
tcp_sum s = checksum (pseudo_header s ++ (tcp_header s 0 ++ s.data.now))

-- version 4, no options, no fragment, 64 hops at most, protocol 6
abbrev pub ip_header : Segment → ℕ → List ℕ
ip_header s sum = joined (
    (69 ∷ 0 ∷ []) ∷ two (40 + length s.data.now) ∷ (0 ∷ 0 ∷ 64 ∷ 0 ∷ 64 ∷ 6 ∷ []) ∷ two sum ∷ four s.source.address
    ∷ four s.target.address ∷ [])

abbrev pub packet : Segment → List ℕ
packet s = ip_header s (checksum (ip_header s 0)) ++ (tcp_header s (tcp_sum s) ++ s.data.now)

-- ## The capture

-- its header: the number of the form, version 2.4, no time zone, packets of 65 535 bytes at most, LINKTYPE_RAW
abbrev pub file_header : List ℕ
file_header =
    joined (low_four 2712847316 ∷ low_two 2 ∷ low_two 4 ∷ low_four 0 ∷ low_four 0 ∷ low_four 65535 ∷ low_four 101 ∷ [])

-- the record of a segment, at a time in seconds and microseconds
abbrev pub record_of : ℕ → ℕ → Segment → List ℕ
record_of seconds micros s = joined (
    low_four seconds ∷ low_four micros ∷ low_four (40 + length s.data.now) ∷ low_four (40 + length s.data.now)
    ∷ packet s ∷ [])
