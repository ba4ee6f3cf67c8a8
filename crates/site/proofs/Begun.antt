-- Hosts that are given names. Assumes nothing.
use Rattle.std.proofs.Common.{◌≡◌, ℕ, ◌+◌, ◌<◌, List, [], ◌∷◌, ◌++◌, map, length, get_or, take, set, sym, refl, ap, ◌∙◌, arith}
use Rattle.std.proofs.lemmas.List.{length-map, map-set, get_or-map, take_more, take_more_set}
use Rattle.text.specs.Kept.{KeptName, name_bytes}
use Rattle.region.specs.Tables.{HostTables}
use Rattle.host.specs.declared.host.Host.{Host}
use Rattle.host.specs.Tables.{host_tables, unread_tables}

-- the hosts of these names on the first day
abbrev begun : List KeptName → List HostTables
begun ns = map unread_tables (map name_bytes ns)

begun-at : (ns : List KeptName) (i : ℕ) (n : KeptName) (t : HostTables) → i < length ns → n ≡ get_or ns i n → get_or (begun ns) i t ≡ unread_tables (name_bytes n)
begun-at ns i n t lt is = get_or-map unread_tables (map name_bytes ns) i (name_bytes n) t (omega (arith, length-map ns name_bytes)) ∙ ap unread_tables (get_or-map name_bytes ns i n (name_bytes n) lt ∙ ap name_bytes (sym is))

-- one host more
pub begun-more : (hs : List Host) (ns : List KeptName) (i : ℕ) (h : Host) (n : KeptName) → i < length hs → i < length ns → n ≡ get_or ns i n → host_tables h ≡ unread_tables (name_bytes n) → take i (map host_tables hs) ≡ take i (map unread_tables (map name_bytes ns)) → take (i + 1) (map host_tables (set hs i h)) ≡ take (i + 1) (map unread_tables (map name_bytes ns))
begun-more hs ns i h n within lt is e sofar =
    ap (take (i + 1)) (map-set host_tables hs i h)
    ∙ take_more_set (map host_tables hs) i (host_tables h) (omega (arith, length-map hs host_tables))
    ∙ ap (λ ts. ts ++ host_tables h ∷ []) sofar
    ∙ ap (λ t. take i (begun ns) ++ t ∷ []) (e ∙ sym (begun-at ns i n (host_tables h) lt is))
    ∙ sym (take_more (begun ns) i (host_tables h) (omega (arith, length-map (map name_bytes ns) unread_tables, length-map ns name_bytes)))

names-begun : (ns : List (List ℕ)) → map (λ t. t.name) (map unread_tables ns) ≡ ns
names-begun [] = refl
names-begun (n ∷ ns) = ap (λ ms. n ∷ ms) (names-begun ns)

-- they have the names that they were given
pub named-begun : (ns : List KeptName) (ts : List HostTables) (all : List (List ℕ)) → map name_bytes ns ≡ all → take (length ns) ts ≡ map unread_tables (map name_bytes ns) → map (λ t. t.name) (take (length all) ts) ≡ all
named-begun ns ts all e b = rw (← e) (ap (λ n. map (λ t. t.name) (take n ts)) (length-map ns name_bytes) ∙ ap (map (λ t. t.name)) b ∙ names-begun (map name_bytes ns))
