-- Facts in pairs as the record of them that a contract with a clause for each asks: of the value and of each slice lent. Assumes nothing.

pub with_work : {A B : Type 0} → A × B → record { value : A; work_after : B }
with_work p = record { value = p.0; work_after = p.1 }

pub with_rows : {A B : Type 0} → A × B → record { value : A; rows_after : B }
with_rows p = record { value = p.0; rows_after = p.1 }

pub with_memory : {A B C D : Type 0} → A × (B × (C × D)) → record { value : A; store_after : B; work_after : C; output_after : D }
with_memory p = record { value = p.0; store_after = p.1.0; work_after = p.1.1.0; output_after = p.1.1.1 }
