-- A DHCPv4 message has one meaning or one fault.
use Rattle.std.proofs.Common.{◌≡◌, ℕ, ◌+◌, List, refl, ap, arith}
use Rattle.sz_base.specs.declared.target.Target.{Target}
use Rattle.sz_dhcp.specs.DhcpOption.{DhcpOption}
use Rattle.sz_dhcp.specs.Message4.{file_field, Gives4, HasOptions, in_file, in_list, in_options, in_sname, IsFault4, IsField, FieldBreaksAt, no_cookie, options_field, server_list, sname_field, too_short}
use Rattle.sz_dhcp.specs.declared.fault.DhcpKind.{DhcpKind}
use Rattle.sz_dhcp.proofs.Lists.{list_or_break, one_list, one_list_break}
use Rattle.sz_dhcp.proofs.Options4.{field_or_break, one_field, one_field_break}

-- what its fields hold
pub record AreSame (options others file other_file sname other_sname : List DhcpOption) : Type 0 where
  options_are : options ≡ others
  file_is : file ≡ other_file
  sname_is : sname ≡ other_sname

same_options : (message : List ℕ) (options others file other_file sname other_sname : List DhcpOption)
    → HasOptions message options file sname → HasOptions message others other_file other_sname
    → AreSame options others file other_file sname other_sname
same_options message options others file other_file sname other_sname a b =
    let own = one_field (options_field message) options others a.own b.own in
    let in_file = rw own at a.in_file in
    let in_sname = rw own at a.in_sname in
    record {
      options_are = own;
      file_is = one_field (file_field others message) file other_file in_file b.in_file;
      sname_is = one_field (sname_field others message) sname other_sname in_sname b.in_sname;
    }

same_list : (message : List ℕ) (options others file other_file sname other_sname : List DhcpOption)
    → HasOptions message options file sname → HasOptions message others other_file other_sname
    → server_list options file sname ≡ server_list others other_file other_sname
same_list message options others file other_file sname other_sname a b =
    let same = same_options message options others file other_file sname other_sname a b in
    let options_are = same.options_are in
    let file_is = same.file_is in
    let sname_is = same.sname_is in
    rw (options_are, file_is, sname_is) refl

pub one_reading4 : (message : List ℕ) (targets others : List Target) → Gives4 message targets → Gives4 message others → targets ≡ others
one_reading4 message targets others a b =
    let lists = same_list message a.options b.options a.file b.file a.sname b.sname a.has b.has in
    let first = rw lists at a.lists in
    one_list (server_list b.options b.file b.sname) targets others first b.lists

pub never_both4 : (message : List ℕ) (targets : List Target) (kind : DhcpKind) (place : ℕ) → Gives4 message targets
    → IsFault4 message kind place → ⊥
never_both4 message targets kind place a (too_short short) = omega (arith, a.has.cookie.long)
never_both4 message targets kind place a (no_cookie long other) = other a.has.cookie.cookie
never_both4 message targets kind place a (in_options {place = at} cookie breaks) =
    field_or_break (options_field message) a.options at a.has.own breaks
never_both4 message targets kind place a (in_file {place = at} {options = options} cookie own breaks) =
    let same = one_field (options_field message) options a.options own a.has.own in
    let there = rw same at breaks in
    field_or_break (file_field a.options message) a.file at a.has.in_file there
never_both4 message targets kind place a (in_sname {place = at} {options = options} cookie own file breaks) =
    let same = one_field (options_field message) options a.options own a.has.own in
    let there = rw same at breaks in
    field_or_break (sname_field a.options message) a.sname at a.has.in_sname there
never_both4 message targets kind place a (in_list {options = options} {file = file} {sname = sname} has breaks) =
    let lists = same_list message options a.options file a.file sname a.sname has a.has in
    let there = rw lists at breaks in
    list_or_break (server_list a.options a.file a.sname) targets place a.lists there

-- a kind and a place are these
abbrev Same : DhcpKind → DhcpKind → ℕ → ℕ → Type 0
Same kind other place at = (kind ≡ other) × (place ≡ at)

-- `file` breaks at one place, whatever else the message holds
one_break_in_file : (message : List ℕ) (options others : List DhcpOption) (place at : ℕ) → IsField (options_field message) options
    → IsField (options_field message) others → FieldBreaksAt (file_field options message) place
    → FieldBreaksAt (file_field others message) at → place ≡ at
one_break_in_file message options others place at own other breaks second =
    let same = one_field (options_field message) options others own other in
    let first = rw same at breaks in
    one_field_break (file_field others message) place at first second

one_break_in_sname : (message : List ℕ) (options others : List DhcpOption) (place at : ℕ) → IsField (options_field message) options
    → IsField (options_field message) others → FieldBreaksAt (sname_field options message) place
    → FieldBreaksAt (sname_field others message) at → place ≡ at
one_break_in_sname message options others place at own other breaks second =
    let same = one_field (options_field message) options others own other in
    let first = rw same at breaks in
    one_field_break (sname_field others message) place at first second

-- where `file` breaks it has no options
not_in_file : (message : List ℕ) (options others file : List DhcpOption) (place : ℕ) → IsField (options_field message) options
    → IsField (options_field message) others → FieldBreaksAt (file_field options message) place
    → IsField (file_field others message) file → ⊥
not_in_file message options others file place own other breaks second =
    let same = one_field (options_field message) options others own other in
    let first = rw same at breaks in
    field_or_break (file_field others message) file place second first

not_in_sname : (message : List ℕ) (options others sname : List DhcpOption) (place : ℕ) → IsField (options_field message) options
    → IsField (options_field message) others → FieldBreaksAt (sname_field options message) place
    → IsField (sname_field others message) sname → ⊥
not_in_sname message options others sname place own other breaks second =
    let same = one_field (options_field message) options others own other in
    let first = rw same at breaks in
    field_or_break (sname_field others message) sname place second first

pub one_fault4 : (message : List ℕ) (kind other : DhcpKind) (place at : ℕ) → IsFault4 message kind place → IsFault4 message other at
    → Same kind other place at
one_fault4 message kind other place at (too_short short) (too_short second) = (refl, refl)
one_fault4 message kind other place at (too_short short) (no_cookie long missing) = absurd (omega arith)
one_fault4 message kind other place at (too_short short) (in_options cookie breaks) = absurd (omega (arith, cookie.long))
one_fault4 message kind other place at (too_short short) (in_file cookie own breaks) = absurd (omega (arith, cookie.long))
one_fault4 message kind other place at (too_short short) (in_sname cookie own file breaks) = absurd (omega (arith, cookie.long))
one_fault4 message kind other place at (too_short short) (in_list has breaks) = absurd (omega (arith, has.cookie.long))
one_fault4 message kind other place at (no_cookie long missing) (too_short short) = absurd (omega arith)
one_fault4 message kind other place at (no_cookie long missing) (no_cookie second again) = (refl, refl)
one_fault4 message kind other place at (no_cookie long missing) (in_options cookie breaks) = absurd (missing cookie.cookie)
one_fault4 message kind other place at (no_cookie long missing) (in_file cookie own breaks) = absurd (missing cookie.cookie)
one_fault4 message kind other place at (no_cookie long missing) (in_sname cookie own file breaks) = absurd (missing cookie.cookie)
one_fault4 message kind other place at (no_cookie long missing) (in_list has breaks) = absurd (missing has.cookie.cookie)
one_fault4 message kind other place at (in_options cookie breaks) (too_short short) = absurd (omega (arith, cookie.long))
one_fault4 message kind other place at (in_options cookie breaks) (no_cookie long missing) = absurd (missing cookie.cookie)
one_fault4 message kind other place at (in_options {place = first} cookie breaks) (in_options {place = last} again second) =
    (refl, ap (λ (n : ℕ). 240 + n) (one_field_break (options_field message) first last breaks second))
one_fault4 message kind other place at (in_options {place = first} cookie breaks) (in_file {options = options} again own second) =
    absurd (field_or_break (options_field message) options first own breaks)
one_fault4 message kind other place at (in_options {place = first} cookie breaks) (in_sname {options = options} again own file second) =
    absurd (field_or_break (options_field message) options first own breaks)
one_fault4 message kind other place at (in_options {place = first} cookie breaks) (in_list {options = options} has second) =
    absurd (field_or_break (options_field message) options first has.own breaks)
one_fault4 message kind other place at (in_file cookie own breaks) (too_short short) = absurd (omega (arith, cookie.long))
one_fault4 message kind other place at (in_file cookie own breaks) (no_cookie long missing) = absurd (missing cookie.cookie)
one_fault4 message kind other place at (in_file {options = options} cookie own breaks) (in_options {place = last} again second) =
    absurd (field_or_break (options_field message) options last own second)
one_fault4 message kind other place at (in_file {place = first} {options = options} cookie own breaks)
    (in_file {place = last} {options = others} again second_own second) =
    (refl, ap (λ (n : ℕ). 108 + n) (one_break_in_file message options others first last own second_own breaks second))
one_fault4 message kind other place at (in_file {place = first} {options = options} cookie own breaks)
    (in_sname {options = others} {file = file} again second_own second_file second) =
    absurd (not_in_file message options others file first own second_own breaks second_file)
one_fault4 message kind other place at (in_file {place = first} {options = options} cookie own breaks) (in_list {options = others} {file = file} has second) =
    absurd (not_in_file message options others file first own has.own breaks has.in_file)
one_fault4 message kind other place at (in_sname cookie own file breaks) (too_short short) = absurd (omega (arith, cookie.long))
one_fault4 message kind other place at (in_sname cookie own file breaks) (no_cookie long missing) = absurd (missing cookie.cookie)
one_fault4 message kind other place at (in_sname {options = options} cookie own file breaks) (in_options {place = last} again second) =
    absurd (field_or_break (options_field message) options last own second)
one_fault4 message kind other place at (in_sname {options = options} {file = file} cookie own in_file_are breaks)
    (in_file {place = last} {options = others} again second_own second) =
    absurd (not_in_file message others options file last second_own own second in_file_are)
one_fault4 message kind other place at (in_sname {place = first} {options = options} cookie own file breaks)
    (in_sname {place = last} {options = others} again second_own second_file second) =
    (refl, ap (λ (n : ℕ). 44 + n) (one_break_in_sname message options others first last own second_own breaks second))
one_fault4 message kind other place at (in_sname {place = first} {options = options} cookie own file breaks)
    (in_list {options = others} {sname = sname} has second) =
    absurd (not_in_sname message options others sname first own has.own breaks has.in_sname)
one_fault4 message kind other place at (in_list has breaks) (too_short short) = absurd (omega (arith, has.cookie.long))
one_fault4 message kind other place at (in_list has breaks) (no_cookie long missing) = absurd (missing has.cookie.cookie)
one_fault4 message kind other place at (in_list {options = options} has breaks) (in_options {place = last} again second) =
    absurd (field_or_break (options_field message) options last has.own second)
one_fault4 message kind other place at (in_list {options = options} {file = file} has breaks)
    (in_file {place = last} {options = others} again second_own second) =
    absurd (not_in_file message others options file last second_own has.own second has.in_file)
one_fault4 message kind other place at (in_list {options = options} {sname = sname} has breaks)
    (in_sname {place = last} {options = others} again second_own second_file second) =
    absurd (not_in_sname message others options sname last second_own has.own second has.in_sname)
one_fault4 message kind other place at (in_list {options = options} {file = file} {sname = sname} has breaks)
    (in_list {options = others} {file = other_file} {sname = other_sname} second_has second) =
    let lists = same_list message options others file other_file sname other_sname has second_has in
    let first = rw lists at breaks in
    (refl, one_list_break (server_list others other_file other_sname) place at first second)
