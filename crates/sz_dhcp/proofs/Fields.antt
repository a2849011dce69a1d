-- The faults of the fields of a DHCPv4 message are those of the message.
use Rattle.std.proofs.Common.{◌≡◌, ◌≢◌, eqb, ℕ, ◌+◌, ◌-◌, ◌≤◌, Bool, true, false, cond, List, [], ◌++◌, length, drop, sym, ap, ◌∙◌, arith, length-append, length-drop, length-take}
use Rattle.std.specs.Prelude.{not, slice_range}
use Rattle.std.specs.Cmp.Lexicographic.{pointwise}
use Rattle.std.proofs.lemmas.Bool.{not-false, not-true}
use Rattle.std.proofs.lemmas.Slice.Eq.{bytes_eq-Decides}
use Rattle.std.proofs.lemmas.List.Concat.{flat_map-append}
use Rattle.sz_dhcp.specs.DhcpOption.{DhcpOption}
use Rattle.sz_dhcp.specs.Fault.{IsFault}
use Rattle.sz_dhcp.specs.Message4.{FieldBreaksAt, file_field, HasCookie, HasOptions, holds_options, in_file, in_list, in_options, in_sname, IsField, IsFieldFault, IsFault4, IsOption, options_field, server_list, sname_field, value_with, values_of}
use Rattle.sz_dhcp.specs.Spelled.{EndsInside}
use Rattle.sz_dhcp.specs.UriList.{ListBreaksAt}
use Rattle.sz_dhcp.proofs.Joined.{breaks_there, IsReadUpTo, nothing_behind}
use Rattle.sz_dhcp.specs.Codes4.{overload_code, overloads_file, overloads_sname}
use Rattle.sz_dhcp.specs.declared.fault.DhcpFault.{DhcpFault}
use Rattle.sz_dhcp.specs.declared.fault.DhcpKind.{DhcpKind}
use Rattle.sz_dhcp.specs.declared.fault.DhcpKind.TheVariants.{Short, Uri}

-- a fault at a place, by its offset in a field
placed : (message : List ℕ) (start offset : ℕ) (kind : DhcpKind) (place : ℕ) → kind ≡ Short → place ≡ start + offset
    → IsFault4 message Short (start + offset) → IsFault4 message kind place
placed message start offset kind place short at fault = rw (short, at) fault

pub fault_in_options : (message : List ℕ) (fault : DhcpFault) → HasCookie message
    → IsFault (IsFieldFault (options_field message) (length message)) fault → IsFault (IsFault4 message) fault
fault_in_options message fault cookie is kind place e =
    let found = is kind place e in
    let at = found.place_is in
    let long = cookie.long in
    placed message 240 found.offset kind place found.short (omega (arith, length-drop 240 message)) (in_options cookie found.breaks)

nothing_breaks : (offset : ℕ) → FieldBreaksAt [] offset → ⊥
nothing_breaks offset breaks = breaks.inside.begun (nothing_behind breaks.front breaks.rest (sym breaks.joined))

part_place : (used : Bool) (message : List ℕ) (start end : ℕ) (kind : DhcpKind) (place : ℕ) → start ≤ end → end ≤ length message
    → (found : IsFieldFault (cond used (slice_range message start end) []) end kind place) → place ≡ start + found.offset
part_place true message start end kind place order within found =
    let at = found.place_is in
    omega (arith, length-take (end - start) (drop start message), length-drop start message)
part_place false message start end kind place order within found = absurd (nothing_breaks found.offset found.breaks)

pub fault_in_file : (message : List ℕ) (fault : DhcpFault) (options : List DhcpOption) → HasCookie message
    → IsField (options_field message) options → IsFault (IsFieldFault (file_field options message) 236) fault
    → IsFault (IsFault4 message) fault
fault_in_file message fault options cookie own is kind place e =
    let found = is kind place e in
    let long = cookie.long in
    let at = part_place (holds_options overloads_file (values_of overload_code options)) message 108 236 kind place (omega arith) (omega arith) found in
    placed message 108 found.offset kind place found.short at (in_file cookie own found.breaks)

pub fault_in_sname : (message : List ℕ) (fault : DhcpFault) (options file : List DhcpOption) → HasCookie message
    → IsField (options_field message) options → IsField (file_field options message) file
    → IsFault (IsFieldFault (sname_field options message) 108) fault → IsFault (IsFault4 message) fault
fault_in_sname message fault options file cookie own read is kind place e =
    let found = is kind place e in
    let long = cookie.long in
    let at = part_place (holds_options overloads_sname (values_of overload_code options)) message 44 108 kind place (omega arith) (omega arith) found in
    placed message 44 found.offset kind place found.short at (in_sname cookie own read found.breaks)

-- the values of three fields, one after another
pub three_fields : (code : ℕ) (options file sname : List DhcpOption) (one two list : List ℕ) → one ≡ values_of code options
    → two ≡ one ++ values_of code file → list ≡ two ++ values_of code sname
    → list ≡ values_of code (options ++ file ++ sname)
three_fields code options file sname one two list first second third =
    third ∙ ap (λ (xs : List ℕ). xs ++ values_of code sname) (second ∙ ap (λ (xs : List ℕ). xs ++ values_of code file) first
    ∙ sym (flat_map-append (value_with code) options file)) ∙ sym (flat_map-append (value_with code) (options ++ file) sname)

-- the field that is read, by what option 52 says
pub field_is : (number : ℕ) (message bytes overload : List ℕ) (options : List DhcpOption) (start end : ℕ) → overload ≡ values_of overload_code options
    → bytes ≡ cond (holds_options number overload) (slice_range message start end) []
    → bytes ≡ cond (holds_options number (values_of overload_code options)) (slice_range message start end) []
field_is number message bytes overload options start end told is =
    is ∙ ap (λ (o : List ℕ). cond (holds_options number o) (slice_range message start end) []) told

-- where a field was read up to an option that ends too early
pub field_fault : (bytes left : List ℕ) (end : ℕ) (options : List DhcpOption) (fault : DhcpFault) → IsReadUpTo IsOption bytes options left
    → IsFault (λ kind place. (kind ≡ Short) × EndsInside IsOption left × (place + length left ≡ end)) fault
    → IsFault (IsFieldFault bytes end) fault
field_fault bytes left end options fault read is kind place e =
    let found = is kind place e in
    let at = found.2 in
    record {
      short = found.0;
      offset = length read.front;
      breaks = breaks_there IsOption bytes options left read found.1;
      place_is = omega (arith, ap length read.joined, length-append read.front left);
    }

-- what the comparison of the cookie says
pub cookie_is : (bytes cookie : List ℕ) (differ : Bool) → differ ≡ not (pointwise eqb bytes cookie) → differ ≡ false → bytes ≡ cookie
cookie_is bytes cookie differ is equal = (bytes_eq-Decides bytes cookie).0 (not-false (pointwise eqb bytes cookie) (sym is ∙ equal))

pub cookie_is_not : (bytes cookie : List ℕ) (differ : Bool) → differ ≡ not (pointwise eqb bytes cookie) → differ ≡ true → bytes ≢ cookie
cookie_is_not bytes cookie differ is other same =
    let apart = not-true (pointwise eqb bytes cookie) (sym is ∙ other) in
    let e = sym apart ∙ (bytes_eq-Decides bytes cookie).1 same in
    cc e

pub fault_in_list : (message list : List ℕ) (fault : DhcpFault) (options file sname : List DhcpOption) → HasOptions message options file sname
    → list ≡ server_list options file sname → IsFault (λ kind place. (kind ≡ Uri) × ListBreaksAt list place) fault
    → IsFault (IsFault4 message) fault
fault_in_list message list fault options file sname has same is kind place e =
    let found = is kind place e in
    let breaks = rw same at found.1 in
    let kinds = found.0 in
    rw kinds (in_list has breaks)
