-- The code of a session's value: that of a tree in it, node by node.
use Rattle.std.specs.Prelude.{ℕ, zero, suc, Bool, List, refl}
use Rattle.std.specs.Coded.{Coded, code_by, coded×, coded_bool, coded_list, coded_ℕ}
use Rattle.h5w_bt.specs.declared.records.Record.{Record}
use Rattle.h5w_bt_nodes.specs.Nodes.{Tree}

abbrev pub record_code : Coded Record
record_code = code_by (ℕ × (ℕ × ℕ)) (coded× coded_ℕ (coded× coded_ℕ coded_ℕ)) (λ r. (r.address, (r.key.i, r.key.j))) (λ p. record { address = p.0; key = record { i = p.1.0; j = p.1.1 } }) (λ _. refl)

abbrev pub tree_code : (d : ℕ) → Coded (Tree d)
tree_code zero =
    code_by (List Record × (ℕ × Bool)) (coded× (coded_list record_code) (coded× coded_ℕ coded_bool)) (λ t. (t.records, (t.place, t.clean)))
    (λ p. record { records = p.0; place = p.1.0; clean = p.1.1 }) (λ _. refl)
tree_code (suc d) =
    code_by (List Record × (List (Tree d) × (ℕ × (ℕ × Bool)))) (coded× (coded_list record_code) (coded× (coded_list (tree_code d)) (coded× coded_ℕ (coded× coded_ℕ coded_bool))))
    (λ t. (t.records, (t.children, (t.total, (t.place, t.clean))))) (λ p. record { records = p.0; children = p.1.0; total = p.1.1.0; place = p.1.1.1.0; clean = p.1.1.1.1 }) (λ _. refl)
