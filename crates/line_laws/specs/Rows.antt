-- A line and what it is read as.
use Rattle.std.specs.Prelude.{ℕ, List, codes, negsuc}
use Rattle.serde_json.specs.Data.{Data, null, number, string, array, object, no_items, item, no_members, member, unsigned, negative}

-- as it is printed: the members in the order of a schema
abbrev pub printed : Data
printed = object (member (codes "data") (object no_members)
    (member (codes "fields") (object (member (codes "qty") (number (negative (negsuc 41))) (member (codes "b") null (member (codes "account") (string (codes "q\"\\")) no_members))))
    (member (codes "groups") (object no_members)
    (member (codes "template") (string (codes "Ping"))
    (member (codes "arr") (array (item (number (unsigned 18446744073709551615)) (item null no_items))) no_members)))))

-- as it is read: the members in the order of their keys
abbrev pub in_order : Data
in_order = object (member (codes "arr") (array (item (number (unsigned 18446744073709551615)) (item null no_items)))
    (member (codes "data") (object no_members)
    (member (codes "fields") (object (member (codes "account") (string (codes "q\"\\")) (member (codes "b") null (member (codes "qty") (number (negative (negsuc 41))) no_members))))
    (member (codes "groups") (object no_members)
    (member (codes "template") (string (codes "Ping")) no_members)))))

-- the text of that data
abbrev pub line : List ℕ
line = codes "{\"data\":{},\"fields\":{\"qty\":-42,\"b\":null,\"account\":\"q\\\"\\\\\"},\"groups\":{},\"template\":\"Ping\",\"arr\":[18446744073709551615,null]}"

-- two members with the same key
abbrev pub twice : Data
twice = object (member (codes "a") (number (unsigned 1)) (member (codes "a") (number (unsigned 2)) no_members))

-- only the later of the two
abbrev pub once : Data
once = object (member (codes "a") (number (unsigned 2)) no_members)
